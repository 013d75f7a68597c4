-- What stands behind the jobs of a list does not change what is answered of it.
use mathlib.Core.Path.{◌≡◌, refl, sym, ap, ap₂, subst, ◌∙◌}
use mathlib.Core.Bool.{Bool, true, false, cond}
use mathlib.Core.Logic.{⊎_elim}
use mathlib.Core.List.{List, []}
use Prim.Native.Nat.{ℕ, min, ◌≤◌, ◌<◌}
use native.Mathlib.Nat.{min-eq_left}
use native.Mathlib.Omega.{arith}
use lib.Dec.{eqb, ltb}
use borrow.Author.Tests.{ltb-true, ltb-false}
use Rattle.job.specs.declared.record.Job.{Job}
use Rattle.job.specs.declared.list.JobList.{JobList}
use Rattle.job.specs.Limit.{count_most, cycle_most}
use Rattle.job.specs.Told.{Told, row, passed}
use Rattle.job.specs.Check.{job_at, otherwise}
use Rattle.job.specs.Filled.{filled_upto}
use Rattle.job.proofs.AlikeLaws.{Same, listed, filled_alike}
use Rattle.job.proofs.Meaning.{row_two_exactly}
use Rattle.admission.specs.Cycle.{cycle_of}
use Rattle.place.specs.declared.setting.Setting.{Setting}
use Rattle.place.specs.declared.record.Place.{Place}
use Rattle.place.specs.Opening.{blank, opened}
use Rattle.run.specs.State.{zeros, fresh_of}
use Rattle.run.specs.Slot.{count_upto}
use Rattle.run.specs.Step.{start_told}
use Rattle.run.proofs.StartLaws.{start_checks, allowed_or, start_alike}
use Rattle.shortfall.specs.declared.inner.Tally.{Tally}
use Rattle.shortfall.specs.Tally.{tally_at, tallies_of}
use Rattle.admission.proofs.LentMeaning.{same_cycle as cycle-same}
use Rattle.shortfall.specs.Shortfall.{below_of, none_below, cycle_judged, shortfall_told}
use Rattle.shortfall.proofs.JudgeLaws.{start_first}

-- of more than 16 jobs nothing is told but that
many_refused : (l : JobList) (s : Setting) → count_most < l.count → eqb (start_told l s).number 0 ≡ false
many_refused l s many =
    ⊎_elim (λ a. ap (λ (t : Told). eqb t.number 0) (start_checks l s a ∙ (row_two_exactly l).1 many))
    (λ e. ap (λ (t : Told). eqb t.number 0) e)
    (allowed_or l s)

module _ (l : JobList) (jobs : List Job) (s : Setting) where
  abbrev other : JobList
  other = listed jobs l.count

  abbrev Answered : Type 0
  Answered =
      (shortfall_told other s ≡ shortfall_told l s)
      × (l.count ≤ count_most → cycle_judged other s ≡ cycle_judged l s)

  many_alike : start_told other s ≡ start_told l s → count_most < l.count → Answered
  many_alike starts many = (
    start_first other s (many_refused other s many) ∙ starts ∙ sym (start_first l s (many_refused l s many)),
    λ few. absurd (omega arith),
  )

  module _ (starts : start_told other s ≡ start_told l s) (few : l.count ≤ count_most) (same : Same jobs l.jobs l.count) where
    same_cycle : cycle_of other ≡ cycle_of l
    same_cycle = cycle-same jobs l.jobs l.count same

    same_fresh : fresh_of other s ≡ fresh_of l s
    same_fresh =
        ap
        (λ (places : List Place).
        record { setting = s; clock = 0; count = l.count; places = places; totals = zeros.totals })
        (filled_alike blank (λ i. opened (job_at jobs i)) (λ i. opened (job_at l.jobs i)) (min l.count count_most)
        (λ i h. ap opened (same i (omega arith))))

    same_tallies : tallies_of (fresh_of other s) (cycle_of other) ≡ tallies_of (fresh_of l s) (cycle_of l)
    same_tallies = ap₂ tallies_of same_fresh same_cycle

    same_told : shortfall_told other s ≡ shortfall_told l s
    unfolding shortfall_told
    same_told =
        ap₂ (λ (t : Told) (h : ℕ). otherwise t (cond (ltb cycle_most h) (row 8 []) passed)) starts same_cycle

    same_jobs : (cycle_judged other s).jobs ≡ (cycle_judged l s).jobs
    same_jobs =
        ap₂ (λ (h : ℕ) (t : List Tally). filled_upto none_below (λ i. below_of (job_at jobs i) h (tally_at t i)) l.count) same_cycle same_tallies
        ∙ filled_alike none_below _ _ l.count
        (λ i h. ap (λ (j : Job). below_of j (cycle_of l) (tally_at (tallies_of (fresh_of l s) (cycle_of l)) i)) (same i h))

    few_alike : Answered
    few_alike = (
      same_told,
      λ few dim. record {
        fallen = count_upto (λ i. ltb 0 (tally_at (same_tallies dim) i).short) l.count;
        jobs = same_jobs dim;
      },
    )

  pub shortfall_alike : Same jobs l.jobs (min l.count count_most) → Answered
  shortfall_alike same = go (ltb count_most l.count) refl
    where
      starts : start_told other s ≡ start_told l s
      starts = start_alike l jobs s same

      go : (many : Bool) → ltb count_most l.count ≡ many → Answered
      go true e = many_alike starts (ltb-true count_most l.count e)
      go false e =
          let few = ltb-false count_most l.count e in
          few_alike starts few (subst (Same jobs l.jobs) (min-eq_left few) same)
