-- What is answered of a list: the rows in their order, the jobs one after another, and the list that needs no run.
use mathlib.Core.Path.{◌≡◌, refl, ap, ◌∙◌}
use mathlib.Core.Logic.{⊎_elim}
use mathlib.Core.Bool.{Bool, true, false, cond}
use mathlib.Core.List.{List, []}
use Prim.Native.Nat.{ℕ, ◌+◌, ◌≤◌, ◌<◌}
use native.Mathlib.Omega.{arith}
use lib.Dec.{eqb, ltb}
use lib.ListN.{set, replicate}
use borrow.Author.Tests.{ltb-true, ltb-false}
use Rattle.std.proofs.lemmas.Bool.Decides.{nat_tests}
use Rattle.job.specs.declared.list.JobList.{JobList}
use Rattle.job.specs.Limit.{count_most, cycle_most}
use Rattle.job.specs.Told.{Told, row, passed}
use Rattle.job.specs.Check.{job_at, otherwise, list_told}
use Rattle.job.specs.Sound.{SoundList}
use Rattle.job.specs.Filled.{filled_upto}
use Rattle.job.proofs.FilledLaws.{filled_more}
use Rattle.job.proofs.TestLaws.{clash}
use Rattle.job.proofs.Meaning.{passes_exactly, sound_or}
use Rattle.admission.specs.Cycle.{cycle_of}
use Rattle.place.specs.declared.setting.Setting.{Setting}
use Rattle.place.specs.Sound.{Allowed}
use Rattle.place.specs.Setting.{setting_allowed}
use Rattle.place.proofs.Meaning.{allowed_exactly}
use Rattle.run.specs.Slot.{count_upto}
use Rattle.run.specs.Step.{start_told}
use Rattle.run.proofs.SlotLaws.{count_high, count_more}
use Rattle.run.proofs.StartLaws.{not_started, start_checks}
use Rattle.shortfall.specs.declared.inner.Tally.{Tally}
use Rattle.shortfall.specs.declared.answer.Below.{Below}
use Rattle.shortfall.specs.declared.answer.Judgement.{Judgement}
use Rattle.shortfall.specs.Tally.{tally_at}
use Rattle.shortfall.specs.Shortfall.{below_of, none_below, judged_upto, shortfall_told}

-- what a start refuses is refused as there
pub start_first : (l : JobList) (setting : Setting) → eqb (start_told l setting).number 0 ≡ false → shortfall_told l setting ≡ start_told l setting
unfolding shortfall_told otherwise
start_first l setting refuses = grind (arith, nat_tests)

pub strange_told : (l : JobList) (setting : Setting) → setting_allowed setting ≡ false → shortfall_told l setting ≡ row 15 []
strange_told l setting e =
    start_first l setting (ap (λ (t : Told). eqb t.number 0) (not_started l setting e)) ∙ not_started l setting e

module _ (l : JobList) (setting : Setting) (allowed : Allowed setting) where
  pub refused_told : {t : Told} → list_told l ≡ t → eqb t.number 0 ≡ false → shortfall_told l setting ≡ t
  refused_told {t} e refuses =
      let start : start_told l setting ≡ t = start_checks l setting allowed ∙ e in
      start_first l setting (ap (λ (x : Told). eqb x.number 0) start ∙ refuses) ∙ start

  module _ (sound : SoundList l) where
    starts : start_told l setting ≡ passed
    starts = start_checks l setting allowed ∙ (passes_exactly l).1 sound

    pub long_told : cycle_most < cycle_of l → shortfall_told l setting ≡ row 8 []
    unfolding shortfall_told otherwise
    long_told long = grind (arith, nat_tests, starts)

    pub short_told : cycle_of l ≤ cycle_most → shortfall_told l setting ≡ passed
    unfolding shortfall_told otherwise
    short_told short = grind (arith, nat_tests, starts)

-- a list that is refused, and why; or its cycle
pub data RowView (l : JobList) (setting : Setting) : Type 0 where
  strange : ¬ Allowed setting → shortfall_told l setting ≡ row 15 [] → RowView l setting
  faulty : Allowed setting → ¬ SoundList l → shortfall_told l setting ≡ list_told l → eqb (list_told l).number 0 ≡ false → RowView l setting
  too_long : Allowed setting → SoundList l → cycle_most < cycle_of l → shortfall_told l setting ≡ row 8 [] → RowView l setting
  judgeable : Allowed setting → SoundList l → cycle_of l ≤ cycle_most → shortfall_told l setting ≡ passed → RowView l setting

pub row_view : (l : JobList) (setting : Setting) → RowView l setting
row_view l setting = go (setting_allowed setting) refl
  where
    cycles : Allowed setting → SoundList l → (long : Bool) → ltb cycle_most (cycle_of l) ≡ long → RowView l setting
    cycles a s true e = let h = ltb-true cycle_most (cycle_of l) e in too_long a s h (long_told l setting a s h)
    cycles a s false e = let h = ltb-false cycle_most (cycle_of l) e in judgeable a s h (short_told l setting a s h)

    unsound : eqb (list_told l).number 0 ≡ false → ¬ SoundList l
    unsound refuses s = clash refuses (ap (λ (t : Told). eqb t.number 0) ((passes_exactly l).1 s))

    go : (b : Bool) → setting_allowed setting ≡ b → RowView l setting
    go false e = strange (λ a. clash e ((allowed_exactly setting).1 a)) (strange_told l setting e)
    go true e =
        let a = (allowed_exactly setting).0 e in
        ⊎_elim (λ s. cycles a s (ltb cycle_most (cycle_of l)) refl)
        (λ refuses. faulty a (unsound refuses) (refused_told l setting a refl refuses) refuses) (sound_or l)

-- the jobs, one after another
module _ (l : JobList) (cycle : ℕ) (tallies : List Tally) where
  pub none_judged : {r : Judgement} → r ≡ record { fallen = 0; jobs = replicate count_most none_below } → r ≡ judged_upto l cycle tallies 0
  unfolding filled_upto count_upto
  none_judged e = e

  pub one_more_judged :
      (i : ℕ) {r : Judgement} {one : Below} {fallen : ℕ} → r ≡ judged_upto l cycle tallies i
      → one ≡ below_of (job_at l.jobs i) cycle (tally_at tallies i)
      → fallen ≡ cond (ltb 0 one.short) (r.fallen + 1) r.fallen
      → record { fallen = fallen; jobs = set r.jobs i one } ≡ judged_upto l cycle tallies (i + 1)
  one_more_judged i {r} {one} {fallen} e f g =
      λ dim. record {
        fallen = count_more (λ i. ltb 0 (tally_at tallies i).short) i (ap (λ (x : Below). ltb 0 x.short) f) (ap (λ (x : Judgement). x.fallen) e) g dim;
        jobs = filled_more none_below _ i (ap (λ (x : Judgement). x.jobs) e) f dim;
      }

  pub fallen_high : (i : ℕ) {r : Judgement} → r ≡ judged_upto l cycle tallies i → r.fallen ≤ i
  fallen_high i e = omega (arith, ap (λ (x : Judgement). x.fallen) e, count_high (λ j. ltb 0 (tally_at tallies j).short) i)
