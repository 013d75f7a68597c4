-- The loop over slots that leaves the tags out: what holds before each slot, and along its pass over the places, in which each is moved on and the
-- next slot's choice is found among those moved. Places stand in it without their tags.
use mathlib.Core.Path.{◌≡◌, refl, sym, ap, subst, ◌∙◌}
use mathlib.Core.Bool.{true, false}
use mathlib.Core.List.{List}
use Prim.Native.Nat.{ℕ, ◌+◌, ◌≤◌, ◌<◌}
use native.Mathlib.Numerals.{add-one}
use native.Mathlib.Decide.{dec_lt}
use native.Mathlib.Omega.{arith}
use lib.Dec.{eqb}
use lib.ListN.{length, set, length-set}
use lib.Seq.{get_or-set_other}
use borrow.Author.Tests.{eqb-true}
use Rattle.std.proofs.lemmas.Grind.{common_steps}
use Rattle.job.specs.declared.list.JobList.{JobList}
use Rattle.job.specs.Limit.{count_most}
use Rattle.job.specs.Sound.{SoundList}
use Rattle.place.specs.declared.setting.Setting.{Setting}
use Rattle.place.specs.declared.record.Place.{Place}
use Rattle.place.specs.declared.inner.service.Passage.{Passage}
use Rattle.place.specs.declared.inner.choice.Held.{Held}
use Rattle.place.specs.Opening.{blank}
use Rattle.place.specs.Place.{moved_of, passed_of}
use Rattle.place.specs.Choice.{candidate_of, nobody, better_of}
use Rattle.place.specs.Sound.{SoundPlace, Allowed}
use Rattle.place.proofs.BareLaws.{bare, bare_candidate, bare_better, bare_sound, passed_place, passed_short, passed_sound}
use Rattle.run.specs.declared.state.State.{State}
use Rattle.run.specs.State.{clock_most, place_at, fresh_of}
use Rattle.run.specs.Choice.{held_upto, chosen_of}
use Rattle.run.specs.Sound.{SoundState}
use Rattle.run.specs.Run.{after_slots}
use Rattle.run.proofs.FreshLaws.{fresh_listed, fresh_blank, fresh_sound}
use Rattle.run.proofs.HereLaws.{at, job_sound}
use Rattle.run.proofs.KeepLaws.{turn_place}
use Rattle.run.proofs.ChoiceLaws.{chosen_candidate}
use Rattle.run.proofs.RunLaws.{after_more, after_setting, after_count, after_sound}
use Rattle.shortfall.specs.Tally.{ends_short_in, NoTags}

-- after n slots of a state: the places, and who is chosen for the next
pub record Standing (s : State) (places : List Place) (chosen n : ℕ) : Type 0 where
  pub sound : SoundState s
  pub room : s.clock + n ≤ clock_most
  pub long : length places ≡ count_most
  pub places_are : (j : ℕ) → j < s.count → place_at places j ≡ bare (at (after_slots s n) j)
  pub chosen_is : chosen ≡ chosen_of (after_slots s n)

-- in slot n the first i places are moved on, and `best` is the one of them to choose for the next slot
pub record Passing (s : State) (n chosen : ℕ) (places : List Place) (best : Held) (i : ℕ) : Type 0 where
  pub sound : SoundState s
  pub room : s.clock + n ≤ clock_most
  pub chosen_is : chosen ≡ chosen_of (after_slots s n)
  pub within : i ≤ s.count
  pub long : length places ≡ count_most
  pub moved : (j : ℕ) → j < i → place_at places j ≡ bare (at (after_slots s (n + 1)) j)
  pub still : (j : ℕ) → i ≤ j → j < s.count → place_at places j ≡ bare (at (after_slots s n) j)
  pub best_is : best ≡ held_upto s.setting (after_slots s (n + 1)).places i

chosen_by : (g : State) → chosen_of g ≡ (held_upto g.setting g.places g.count).at
unfolding chosen_of
chosen_by g = refl

held_step : (setting : Setting) (places : List Place) (i : ℕ) → better_of setting (held_upto setting places i) i (place_at places i) ≡ held_upto setting places (i + 1)
unfolding held_upto
held_step setting places i = sym (ap (held_upto setting places) (add-one i))

-- the fresh state of a list has no tag
pub fresh_untagged : (l : JobList) (setting : Setting) → l.count ≤ count_most → NoTags (fresh_of l setting)
fresh_untagged l setting few j = go (dec_lt j l.count)
  where
    go : Dec (j < l.count) → (place_at (fresh_of l setting).places j).at.tag ≡ false
    go (yes listed) = ap (λ (q : Place). q.at.tag) (fresh_listed l setting few j listed)
    go (no past) = ap (λ (q : Place). q.at.tag) (fresh_blank l setting few j (omega arith))

-- a place that has no tag
bare_same : (q : Place) → q.at.tag ≡ false → q ≡ bare q
bare_same q none dim =
    record {
      job = q.job;
      at = record { e = q.at.e; p = q.at.p; u = q.at.u; s = q.at.s; v = q.at.v; tag = none dim };
    }

pub stand_starts : (s : State) → SoundState s → NoTags s → {chosen : ℕ} → chosen ≡ chosen_of s → Standing s s.places chosen 0
unfolding after_slots
stand_starts s sound none e =
    record {
      sound = sound;
      room = (let high = sound.clock_high in omega arith);
      long = sound.long;
      places_are = λ j listed. bare_same (place_at s.places j) (none j);
      chosen_is = e;
    }

pub fresh_stands :
    (l : JobList) (setting : Setting) → SoundList l → Allowed setting → {s : State} {chosen : ℕ} → s ≡ fresh_of l setting
    → chosen ≡ chosen_of s → Standing s s.places chosen 0
fresh_stands l setting sound allowed e is =
    stand_starts _ (rw e (fresh_sound l setting sound allowed)) (rw e (fresh_untagged l setting sound.count.high)) is

pub pass_starts :
    {s : State} {places : List Place} {chosen n : ℕ} {best : Held} → Standing s places chosen n → best ≡ nobody
    → Passing s n chosen places best 0
unfolding held_upto
pass_starts here e =
    record {
      sound = here.sound;
      room = here.room;
      chosen_is = here.chosen_is;
      within = omega arith;
      long = here.long;
      moved = λ j h. absurd (omega arith);
      still = λ j h listed. here.places_are j listed;
      best_is = e;
    }

module _ {s : State} {n chosen : ℕ} {places : List Place} {best : Held} {i : ℕ} (p : Passing s n chosen places best i) where
  abbrev now : State
  now = after_slots s n

  -- a whole pass is a slot
  pub stand_next : s.clock + (n + 1) ≤ clock_most → i ≡ s.count → Standing s places best.at (n + 1)
  stand_next more all =
      record {
        sound = p.sound;
        room = more;
        long = p.long;
        places_are = λ j listed. p.moved j (omega arith);
        chosen_is =
            let g = after_slots s (n + 1) in
            ap (λ (x : Held). x.at) p.best_is
            ∙ cc (all, after_setting s (n + 1), after_count s (n + 1), chosen_by g);
      }

  now_sound : SoundState now
  now_sound = after_sound s p.sound n p.room

  module _ (listed : i < s.count) where
    there : i < now.count
    there = omega (arith, after_count s n)

    reads : place_at places i ≡ bare (at now i)
    reads = p.still i (omega arith) listed

    true_sound : SoundPlace s.setting (at now i)
    true_sound = subst (λ (x : Setting). SoundPlace x (at now i)) (after_setting s n) (job_sound now_sound i there)

    true_fair : eqb i chosen ≡ true → candidate_of s.setting (at now i) ≡ true
    true_fair e =
        subst (λ (x : Setting). candidate_of x (at now i) ≡ true) (after_setting s n)
        (chosen_candidate now i (omega (arith, p.sound.count.high)) (eqb-true i chosen e ∙ p.chosen_is))

    pub pass_sound : SoundPlace s.setting (place_at places i)
    pass_sound = rw reads (bare_sound true_sound)

    pub pass_fair : eqb i chosen ≡ true → candidate_of s.setting (place_at places i) ≡ true
    pass_fair e = rw reads (bare_candidate s.setting (at now i) ∙ true_fair e)

    -- what the slot makes of the place
    module _ {o : Passage} (moves : o ≡ passed_of s.setting (place_at places i) (eqb i chosen)) where
      same : o ≡ passed_of s.setting (bare (at now i)) (eqb i chosen)
      same = moves ∙ ap (λ (q : Place). passed_of s.setting q (eqb i chosen)) reads

      true_place : (moved_of s.setting (at now i) (eqb i chosen)).place ≡ at (after_slots s (n + 1)) i
      true_place = cc (p.chosen_is, after_setting s n, turn_place now now_sound i there, after_more s n)

      is_place : o.place ≡ bare (at (after_slots s (n + 1)) i)
      is_place =
          ap (λ (x : Passage). x.place) same
          ∙ passed_place s.setting (at now i) (eqb i chosen)
          ∙ ap bare true_place

      pub pass_short : o.short ≡ ends_short_in now i
      pass_short =
          ap (λ (x : Passage). x.short) same
          ∙ passed_short s.setting (at now i) (eqb i chosen)
          ∙ cc (p.chosen_is, after_setting s n)

      pub pass_moved_sound : SoundPlace s.setting o.place
      pass_moved_sound = rw same (passed_sound s.setting (at now i) (eqb i chosen) true_sound true_fair)

      pub pass_more : {best' : Held} → best' ≡ better_of s.setting best i o.place → Passing s n chosen (set places i o.place) best' (i + 1)
      pass_more b =
          record {
            sound = p.sound;
            room = p.room;
            chosen_is = p.chosen_is;
            within = omega arith;
            long = length-set places i o.place ∙ p.long;
            moved = λ j h. grind (arith, common_steps, is_place, p.moved j, p.sound.count.high);
            still = λ j h inside. get_or-set_other places i j o.place blank (omega arith) ∙ p.still j (omega arith) inside;
            best_is = b ∙ held_more;
          }
        where
          next : List Place
          next = (after_slots s (n + 1)).places

          held_more : better_of s.setting best i o.place ≡ held_upto s.setting next (i + 1)
          held_more =
              ap (better_of s.setting best i) is_place
              ∙ bare_better s.setting (place_at next i) best i
              ∙ ap (λ (x : Held). better_of s.setting x i (place_at next i)) p.best_is
              ∙ held_step s.setting next i
