-- The ranges of a state: the test of row 10 and the facts of specs/Sound.
use mathlib.Core.Path.{◌≡◌, refl, sym, ◌∙◌}
use mathlib.Core.Bool.{Bool, true, false, ◌&&◌}
use mathlib.Core.Logic.{◌↔◌}
use mathlib.Core.List.{List}
use Prim.Native.Nat.{ℕ, zero, suc, ◌+◌, ◌*◌, ◌≤◌, ◌<◌}
use native.Mathlib.Decide.{dec_lt}
use native.Mathlib.Omega.{arith}
use lib.Dec.{leb, ltb, eqb}
use lib.ListN.{length, get_or-eq_default}
use borrow.Author.Count.{below_more}
use borrow.Author.Tests.{ltb-true, ltb-false, leb-true, eqb-true, lt-ltb, le-ltb, le-leb, eq-eqb}
use Rattle.std.specs.Prelude.{IsTrue, EachIndex}
use Rattle.job.specs.Limit.{count_most}
use Rattle.job.specs.Check.{allowed}
use Rattle.place.specs.declared.setting.Setting.{Setting}
use Rattle.place.specs.declared.record.Place.{Place}
use Rattle.place.specs.Setting.{setting_allowed}
use Rattle.place.specs.Opening.{blank}
use Rattle.place.specs.Sound.{SoundPlace}
use Rattle.run.specs.declared.state.Totals.{Totals}
use Rattle.run.specs.declared.state.State.{State}
use Rattle.run.specs.State.{clock_most, sets_most, place_at}
use Rattle.run.specs.Sound.{SoundState}
use Rattle.place.specs.Range.{place_in_range}
use Rattle.run.specs.Range.{places_in_range, totals_in_range, values_in_range, state_in_range}
use Rattle.run.specs.Meaning.{RangeAnswers}
use Rattle.job.proofs.TestLaws.{both, three, allowed_within, within_allowed}
use Rattle.place.proofs.Meaning.{allowed_exactly}
use Rattle.place.proofs.RangeLaws.{place_facts, place_test, blank_facts, blank_test}
use Rattle.run.proofs.HereLaws.{job_sound, past_blank, places_sound}

-- an array has 16 places
pub by_values : (s : State) → length s.places ≡ count_most → state_in_range s ≡ values_in_range s
unfolding state_in_range
by_values s long = rw (eq-eqb (length s.places) count_most long)

-- all places
module _ (setting : Setting) (count : ℕ) (places : List Place) where
  abbrev tested : ℕ → Bool
  tested i = place_in_range setting (ltb i count) (place_at places i)

  each_place : (n : ℕ) → places_in_range setting count places n ≡ true → (i : ℕ) → i < n → tested i ≡ true
  unfolding places_in_range
  each_place zero e i h = absurd (omega arith)
  each_place (suc n) e i h =
      let t = both (places_in_range setting count places n) (tested n) e in
      below_more (λ (x : ℕ). tested x ≡ true) n (each_place n t.0) t.1 i (omega arith)

  all_places : (n : ℕ) → ((i : ℕ) → i < n → tested i ≡ true) → places_in_range setting count places n ≡ true
  unfolding places_in_range
  all_places zero each = refl
  all_places (suc n) each = rw (all_places n (λ i h. each i (omega arith))) (each n (omega arith))

  -- a test of each of the 16 places is that of all
  pub all_tested :
      length places ≡ count_most → {r : Bool} → IsTrue r ↔ EachIndex places (λ i. tested i ≡ true)
      → r ≡ places_in_range setting count places count_most
  all_tested long {r} each = go r (places_in_range setting count places count_most) refl refl
    where
      go : (a b : Bool) → r ≡ a → places_in_range setting count places count_most ≡ b → a ≡ b
      go true b e f = sym (all_places count_most (λ i h. each.0 e i (omega arith))) ∙ f
      go false true e f = sym e ∙ each.1 (λ i h. each_place count_most f i (omega arith))
      go false false e f = refl

  listed_facts :
      places_in_range setting count places count_most ≡ true → count ≤ count_most → (i : ℕ) → i < count
      → SoundPlace setting (place_at places i)
  listed_facts e few i h =
      place_facts setting (place_at places i)
      (rw (lt-ltb i count h) at (each_place count_most e i (omega arith)))

  others_facts :
      length places ≡ count_most → places_in_range setting count places count_most ≡ true → (i : ℕ) → count ≤ i
      → place_at places i ≡ blank
  unfolding place_in_range
  others_facts long e i past = go (dec_lt i count_most)
    where
      go : Dec (i < count_most) → place_at places i ≡ blank
      go (yes h) = blank_facts (place_at places i) (rw (le-ltb i count past) at (each_place count_most e i h))
      go (no far) = get_or-eq_default places blank (omega arith)

  places_test :
      ((i : ℕ) → i < count → SoundPlace setting (place_at places i))
      → ((i : ℕ) → count ≤ i → place_at places i ≡ blank) → places_in_range setting count places count_most ≡ true
  unfolding place_in_range
  places_test listed past = all_places count_most (λ i h. go i (ltb i count) refl)
    where
      go : (i : ℕ) (b : Bool) → ltb i count ≡ b → tested i ≡ true
      go i true f = rw f (place_test setting (place_at places i) (listed i (ltb-true i count f)))
      go i false f = rw f (blank_test (past i (ltb-false i count f)))

-- the totals
totals_facts :
    (clock : ℕ) (t : Totals) → totals_in_range clock t ≡ true
    → (t.given + t.idle ≡ clock) × (t.tags ≤ sets_most * clock) × (t.shorts ≤ sets_most * clock)
unfolding totals_in_range
totals_facts clock t e =
    let tests = three (eqb (t.given + t.idle) clock) (leb t.tags (sets_most * clock)) (leb t.shorts (sets_most * clock)) e in (
      eqb-true (t.given + t.idle) clock tests.0,
      leb-true t.tags (sets_most * clock) tests.1,
      leb-true t.shorts (sets_most * clock) tests.2,
    )

-- the state
state_facts : (s : State) → state_in_range s ≡ true → SoundState s
unfolding state_in_range values_in_range
state_facts s e =
    let parts = both (eqb (length s.places) count_most) (values_in_range s) e in
    let long = eqb-true (length s.places) count_most parts.0 in
    let tested = places_in_range s.setting s.count s.places count_most in
    let fixed = setting_allowed s.setting && leb s.clock clock_most && allowed s.count count_most in
    let last = three fixed tested (totals_in_range s.clock s.totals) parts.1 in
    let first = three (setting_allowed s.setting) (leb s.clock clock_most) (allowed s.count count_most) last.0 in
    let count = allowed_within s.count count_most first.2 in
    let totals = totals_facts s.clock s.totals last.2 in
    record {
      long = long;
      setting = (allowed_exactly s.setting).0 first.0;
      clock_high = leb-true s.clock clock_most first.1;
      count = count;
      places =
          places_sound s.setting s.count s.places (listed_facts s.setting s.count s.places last.1 count.high)
          (others_facts s.setting s.count s.places long last.1);
      slots = totals.0;
      tags_high = totals.1;
      shorts_high = totals.2;
    }

state_test : (s : State) → SoundState s → state_in_range s ≡ true
unfolding values_in_range totals_in_range
state_test s h =
    by_values s h.long
    ∙ simp
    ((allowed_exactly s.setting).1 h.setting, le-leb s.clock clock_most h.clock_high, within_allowed s.count count_most h.count, places_test s.setting s.count s.places (job_sound h) (past_blank h), h.slots, eq-eqb s.clock s.clock refl, le-leb s.totals.tags (sets_most * s.clock) h.tags_high, le-leb s.totals.shorts (sets_most * s.clock) h.shorts_high)

pub range_exactly : (s : State) → (state_in_range s ≡ true) ↔ SoundState s
range_exactly s = (state_facts s, state_test s)

pub range_answers : RangeAnswers
range_answers s r promise = rw promise (range_exactly s)
