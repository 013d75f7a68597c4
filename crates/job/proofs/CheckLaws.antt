-- How the check of a list goes on from job to job.
use mathlib.Core.Path.{◌≡◌, refl, ◌∙◌, ap}
use mathlib.Core.Bool.{Bool, false, cond}
use mathlib.Core.List.{List, []}
use Prim.Native.Nat.{ℕ, ◌+◌, ◌≤◌, ◌<◌}
use native.Mathlib.Numerals.{add-one}
use native.Mathlib.Decide.{le_ind}
use native.Mathlib.Omega.{arith}
use lib.Dec.{eqb, ltb}
use borrow.Author.Tests.{ne_eqb, le-ltb}
use Rattle.job.specs.declared.refusal.Refusal.{Refusal}
use Rattle.job.specs.declared.record.Job.{Job}
use Rattle.job.specs.declared.list.JobList.{JobList}
use Rattle.job.specs.Limit.{count_most}
use Rattle.job.specs.Told.{Told, row, passed, told}
use Rattle.job.specs.Check.{job_at, job_told, otherwise, jobs_told, list_told}
use Rattle.job.proofs.ToldLaws.{told_refuses}

pub otherwise_passed : {a : Told} (b : Told) → a ≡ passed → otherwise a b ≡ b
unfolding otherwise
otherwise_passed b e = ap (λ (x : Told). cond (eqb x.number 0) b x) e

pub otherwise_refused : (a b : Told) → eqb a.number 0 ≡ false → otherwise a b ≡ a
unfolding otherwise
otherwise_refused a b e = rw e

pub no_job_told : (jobs : List Job) → jobs_told jobs 0 ≡ passed
unfolding jobs_told
no_job_told jobs = refl

-- one job more, after jobs that pass
pub one_more : (jobs : List Job) (i : ℕ) → jobs_told jobs i ≡ passed → jobs_told jobs (i + 1) ≡ job_told i (job_at jobs i)
unfolding jobs_told
one_more jobs i e = ap (jobs_told jobs) (add-one i) ∙ otherwise_passed (job_told i (job_at jobs i)) e

-- a fault once found is the answer, whatever follows
pub stays :
    (jobs : List Job) (i n : ℕ) → i ≤ n → eqb (jobs_told jobs i).number 0 ≡ false → jobs_told jobs n ≡ jobs_told jobs i
unfolding jobs_told
stays jobs i n h refused =
    le_ind (λ (x : ℕ). jobs_told jobs x ≡ jobs_told jobs i) refl
    (λ x l same.
    otherwise_refused (jobs_told jobs x) (job_told x (job_at jobs x)) (ap (λ (t : Told). eqb t.number 0) same ∙ refused)
    ∙ same)
    n h

-- the check by its two tests of the count
pub by_count :
    (l : JobList) (none many : Bool) → eqb l.count 0 ≡ none → ltb count_most l.count ≡ many
    → list_told l ≡ cond none (row 1 []) (cond many (row 2 []) (jobs_told l.jobs l.count))
unfolding list_told
by_count l none many e f = simp (e, f)

module _ (l : JobList) (some : 0 < l.count) (few : l.count ≤ count_most) where
  -- a list of an allowed count is judged by its jobs
  pub by_jobs : list_told l ≡ jobs_told l.jobs l.count
  by_jobs = by_count l false false (ne_eqb l.count 0 (omega arith)) (le-ltb count_most l.count few)

  -- the first job at fault is the answer
  pub found :
      (at : ℕ) (r : Refusal) → at < l.count → jobs_told l.jobs at ≡ passed → job_told at (job_at l.jobs at) ≡ told r
      → list_told l ≡ told r
  found at r listed passes fault =
      let here : jobs_told l.jobs (at + 1) ≡ told r = one_more l.jobs at passes ∙ fault in
      by_jobs
      ∙ stays l.jobs (at + 1) l.count (omega arith) (ap (λ (t : Told). eqb t.number 0) here ∙ told_refuses r)
      ∙ here
