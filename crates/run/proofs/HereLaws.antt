-- Where the jobs of a state are: in the first `count` places, and nowhere else.
use mathlib.Core.Path.{◌≡◌, ap}
use mathlib.Core.List.{List}
use Prim.Native.Nat.{ℕ, ◌≤◌, ◌<◌}
use native.Mathlib.Decide.{dec_lt}
use native.Mathlib.Omega.{arith}
use Rattle.place.specs.declared.setting.Setting.{Setting}
use Rattle.place.specs.declared.record.Place.{Place}
use Rattle.place.specs.Opening.{blank, Here}
use Rattle.place.specs.Sound.{SoundPlace}
use Rattle.run.specs.declared.state.State.{State}
use Rattle.run.specs.State.{place_at}
use Rattle.run.specs.Sound.{SoundPlaces, SoundState}

-- place i of a state
abbrev pub at : State → ℕ → Place
at s i = place_at s.places i

-- the places of a state, by the count
module _ {s : State} (sound : SoundState s) (i : ℕ) where
  pub job_sound : i < s.count → SoundPlace s.setting (at s i)
  job_sound h = (sound.places.each i).job (sound.places.listed i h)

  pub past_blank : s.count ≤ i → at s i ≡ blank
  past_blank past = (sound.places.each i).empty (λ here. absurd (omega (arith, sound.places.within i here)))

-- and from it
module _
    (setting : Setting) (count : ℕ) (places : List Place) (job : (i : ℕ) → i < count → SoundPlace setting (place_at places i))
    (other : (i : ℕ) → count ≤ i → place_at places i ≡ blank)
  where
    listed : (i : ℕ) → i < count → Here (place_at places i)
    listed i h = (job i h).job.c.low

    within : (i : ℕ) → Here (place_at places i) → i < count
    within i here = go (dec_lt i count)
      where
        go : Dec (i < count) → i < count
        go (yes h) = h
        go (no far) = absurd (omega (arith, ap (λ (q : Place). q.job.c) (other i (omega arith))))

    pub places_sound : SoundPlaces setting count places
    places_sound =
        record {
          listed = listed;
          within = within;
          each =
              λ i.
              record {
                job = λ here. job i (within i here);
                empty = λ none. other i (let past : ¬ (i < count) = λ h. none (listed i h) in omega arith);
              };
        }
