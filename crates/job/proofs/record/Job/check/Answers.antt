-- The four tests in the order of the definition.
use mathlib.Core.Path.{◌≡◌, refl, sym, ◌∙◌}
use mathlib.Core.Bool.{Bool, true, false, cond}
use mathlib.Core.List.{[], ◌∷◌}
use Prim.Native.Nat.{ℕ}
use Rattle.job.specs.declared.record.Job.{Job}
use Rattle.job.specs.Limit.{t_most, k_most}
use Rattle.job.specs.Told.{row, passed}
use Rattle.job.specs.Check.{allowed, job_told}
use Rattle.job.proofs.Meaning.{one_job_passes_exactly}
use Rattle.job.proofs.record.Job.check.Goals as goal

by_tests :
    (i : ℕ) (j : Job) (t c k m : Bool) → allowed j.t t_most ≡ t → allowed j.c j.t ≡ c → allowed j.k k_most ≡ k
    → allowed j.m j.k ≡ m
    → cond t (cond c (cond k (cond m passed (row 6 (i ∷ []))) (row 5 (i ∷ []))) (row 4 (i ∷ []))) (row 3 (i ∷ [])) ≡ job_told i j
unfolding job_told
by_tests i j t c k m et ec ek em = simp (et, ec, ek, em)

pub returns-then-not-within : goal.returns-then-not-within
returns-then-not-within c = (by_tests _ _ false _ _ _ (sym c.within.ensures ∙ c.if-not-within.true) refl refl refl, tt)

pub returns-then-not-within-2 : goal.returns-then-not-within-2
returns-then-not-within-2 c = (by_tests _ _ true false _ _ (sym c.within.ensures ∙ c.if-not-within.false) (sym c.within-2.ensures ∙ c.if-not-within-2.true) refl refl, tt)

pub returns-then-not-within-3 : goal.returns-then-not-within-3
returns-then-not-within-3 c = (by_tests _ _ true true false _ (sym c.within.ensures ∙ c.if-not-within.false) (sym c.within-2.ensures ∙ c.if-not-within-2.false) (sym c.within-3.ensures ∙ c.if-not-within-3.true) refl, tt)

pub returns-then-not-within-4 : goal.returns-then-not-within-4
returns-then-not-within-4 c = (by_tests _ _ true true true false (sym c.within.ensures ∙ c.if-not-within.false) (sym c.within-2.ensures ∙ c.if-not-within-2.false) (sym c.within-3.ensures ∙ c.if-not-within-3.false) (sym c.within-4.ensures ∙ c.if-not-within-4.true), tt)

-- past the four tests
passes : (c : goal.Else-not-within-4) → job_told c.args.at c.args.self ≡ passed
passes c = sym (by_tests _ _ true true true true (sym c.within.ensures ∙ c.if-not-within.false) (sym c.within-2.ensures ∙ c.if-not-within-2.false) (sym c.within-3.ensures ∙ c.if-not-within-3.false) (sym c.within-4.ensures ∙ c.if-not-within-4.false))

pub invariant_of-result : goal.invariant_of-result
invariant_of-result c = (one_job_passes_exactly c.args.at c.args.self).0 (passes c)

pub returns : goal.returns
returns c = (sym (passes c), refl)
