-- What a lent list is as a list by value, and the statements of specs/LentMeaning: admission answers both alike.
use mathlib.Core.Path.{◌≡◌, refl, sym, ◌∙◌, ap, subst}
use mathlib.Core.Bool.{Bool, true, false}
use mathlib.Core.List.{List}
use Prim.Native.Nat.{ℕ, zero, suc, ◌≤◌, ◌<◌, min}
use native.Mathlib.Nat.{min-eq_left, min-le_right}
use native.Mathlib.Omega.{arith}
use lib.Dec.{ltb}
use lib.ListN.{length, take}
use borrow.Author.Tests.{ltb-true, ltb-false}
use Rattle.job.specs.declared.record.Job.{Job}
use Rattle.job.specs.Limit.{count_most, original}
use Rattle.job.specs.Check.{no_job, job_at, list_told}
use Rattle.admission.specs.Cycle.{cycle_upto}
use Rattle.admission.specs.Load.{load_upto}
use Rattle.admission.specs.Verdict.{verdict_told}
use Rattle.admission.specs.Lent.{list_of, admit_of}
use Rattle.admission.specs.LentMeaning.{LentVerdicts, FirstVerdicts, LentAsByValue}
use Rattle.job.proofs.FilledLaws.{filled_at}
use Rattle.job.proofs.AlikeLaws.{Same, listed, jobs_alike}
use Rattle.admission.proofs.VerdictLaws.{verdict_strange}
use Rattle.admission.proofs.Meaning.{row_two_exactly, verdicts}
use Rattle.admission.proofs.AnswerLaws.{admission_one_to_one}

-- the list by value has the lent list's length for its count, and its first 16 jobs
count_is_length : (xs : List Job) → (list_of xs).count ≡ length xs
count_is_length xs = refl

array_holds : (xs : List Job) (i : ℕ) → i < min (length xs) count_most → job_at (list_of xs).jobs i ≡ job_at xs i
array_holds xs i less = filled_at no_job (job_at xs) _ i less (min-le_right (length xs) count_most)

-- the verdict reads the jobs below the count, and these only where they are at most 16
module _ (a b : List Job) where
  pub same_cycle : (n : ℕ) → Same a b n → cycle_upto a n ≡ cycle_upto b n
  unfolding cycle_upto
  same_cycle zero same = refl
  same_cycle (suc n) same = rw (same_cycle n (λ i h. same i (omega arith)), same n (omega arith)) refl

  same_load : (h n : ℕ) → Same a b n → load_upto a h n ≡ load_upto b h n
  unfolding load_upto
  same_load h zero same = refl
  same_load h (suc n) same = rw (same_load h n (λ i l. same i (omega arith)), same n (omega arith)) refl

  same_few : (n model : ℕ) → Same a b n → verdict_told (listed a n) model ≡ verdict_told (listed b n) model
  unfolding list_told verdict_told
  same_few n model same = rw (jobs_alike a b n same, same_cycle n same, same_load (cycle_upto b n) n same) refl

  pub same_verdict : (n model : ℕ) → Same a b (min n count_most) → verdict_told (listed a n) model ≡ verdict_told (listed b n) model
  same_verdict n model same = go (ltb original model) (ltb count_most n) refl refl
    where
      go :
          (strange many : Bool) → ltb original model ≡ strange → ltb count_most n ≡ many
          → verdict_told (listed a n) model ≡ verdict_told (listed b n) model
      go true many e f =
          let strange = ltb-true original model e in
          verdict_strange (listed a n) model strange ∙ sym (verdict_strange (listed b n) model strange)
      go false true e f =
          let says : (model ≤ original) × (count_most < n) = (ltb-false original model e, ltb-true count_most n f) in
          (row_two_exactly (listed a n) model).1 says ∙ sym ((row_two_exactly (listed b n) model).1 says)
      go false false e f = same_few n model (subst (Same a b) (min-eq_left (ltb-false count_most n f)) same)

-- by value, from any array that holds the lent list's first 16 jobs
by_value :
    (xs jobs : List Job) (model : ℕ) → Same jobs xs (min (length xs) count_most)
    → admit_of xs model ≡ verdict_told (listed jobs (length xs)) model
by_value xs jobs model same =
    let held : List Job = (list_of xs).jobs in
    ap (λ (n : ℕ). verdict_told (listed held n) model) (count_is_length xs)
    ∙ same_verdict held jobs (length xs) model (λ i less. array_holds xs i less ∙ sym (same i less))

pub lent_verdicts : LentVerdicts
lent_verdicts xs model r e = verdicts (listed xs (length xs)) model r (e ∙ by_value xs xs model (λ i less. refl))

pub first_verdicts : FirstVerdicts
first_verdicts xs n model r = lent_verdicts (take n xs) model r

pub lent_as_by_value : LentAsByValue
lent_as_by_value xs jobs model r q same e f = admission_one_to_one r q (e ∙ by_value xs jobs model same ∙ sym f)
