-- A slot keeps a sound state sound.
use mathlib.Core.Path.{◌≡◌, ◌∙◌}
use mathlib.Core.Bool.{Bool, true, false, not, cond}
use Prim.Native.Nat.{ℕ, ◌+◌, ◌≤◌, ◌<◌}
use native.Mathlib.Omega.{arith}
use lib.Dec.{eqb}
use borrow.Author.Tests.{eqb-true}
use Rattle.place.specs.Opening.{blank}
use Rattle.place.specs.Place.{moved_of}
use Rattle.place.specs.Choice.{no_place}
use Rattle.place.specs.Sound.{SoundPlace}
use Rattle.run.specs.declared.state.State.{State}
use Rattle.run.specs.State.{clock_most}
use Rattle.run.specs.Choice.{chosen_of}
use Rattle.run.specs.Slot.{tags_at, shorts_at, all_moved, turn_of}
use Rattle.run.specs.Sound.{SoundState}
use Rattle.place.proofs.PlaceLaws.{moved_sound}
use Rattle.run.proofs.SlotLaws.{placed_length, placed_before, placed_later, count_high}
use Rattle.run.proofs.HereLaws.{at, job_sound, past_blank, places_sound}
use Rattle.run.proofs.ChoiceLaws.{chosen_candidate}

module _ (s : State) (sound : SoundState s) (i : ℕ) where
  -- a job's place after the slot
  pub turn_place : i < s.count → at (turn_of s).state i ≡ (moved_of s.setting (at s i) (eqb i (chosen_of s))).place
  unfolding turn_of all_moved
  turn_place listed =
      placed_before s.setting s.places (chosen_of s) s.count (omega (arith, sound.long, sound.count.high)) i listed

  turn_sound : i < s.count → SoundPlace s.setting (at (turn_of s).state i)
  turn_sound listed =
      rw (turn_place listed)
      (moved_sound (job_sound sound i listed)
      (λ chosen. chosen_candidate s i (omega (arith, sound.count.high)) (eqb-true i (chosen_of s) chosen)))

  -- and the others
  turn_blank : s.count ≤ i → at (turn_of s).state i ≡ blank
  unfolding turn_of all_moved
  turn_blank past = placed_later s.setting s.places (chosen_of s) s.count i past ∙ past_blank sound i past

-- one more slot, given or idle
one_more :
    (idle : Bool) (given idles clock : ℕ) → given + idles ≡ clock
    → cond (not idle) (given + 1) given + cond idle (idles + 1) idles ≡ clock + 1
one_more true given idles clock e = omega arith
one_more false given idles clock e = omega arith

pub turn_keeps_sound : (s : State) → SoundState s → s.clock < clock_most → SoundState (turn_of s).state
unfolding turn_of all_moved
turn_keeps_sound s sound below =
    record {
      long = placed_length s.setting s.places (chosen_of s) s.count ∙ sound.long;
      setting = sound.setting;
      clock_high = omega arith;
      count = sound.count;
      places = places_sound s.setting s.count (turn_of s).state.places (turn_sound s sound) (turn_blank s sound);
      slots = one_more (eqb (chosen_of s) no_place) s.totals.given s.totals.idle s.clock sound.slots;
      tags_high =
          let few = count_high (tags_at s.setting s.places (chosen_of s)) s.count in
          omega (arith, sound.tags_high, sound.count.high);
      shorts_high =
          let few = count_high (shorts_at s.setting s.places (chosen_of s)) s.count in
          omega (arith, sound.shorts_high, sound.count.high);
    }
