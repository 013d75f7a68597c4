-- The promise of each public operation: what its contract says of a result `r`.
use Rattle.std.specs.Prelude.{ℕ, ◌≡◌, List, take}
use Rattle.job.specs.declared.record.Job.{Job}
use Rattle.job.specs.declared.list.JobList.{JobList}
use Rattle.admission.specs.Divisor.{GreatestDivisor}
use Rattle.admission.specs.Answer.{Admission, told_admission, cycle_returned, load_returned}
use Rattle.admission.specs.Verdict.{verdict_told}
use Rattle.admission.specs.Lent.{admit_of}

-- `amounts`
abbrev pub CyclePromise : Admission → ℕ → Type 0
CyclePromise a r = r ≡ cycle_returned (told_admission a)

abbrev pub LoadPromise : Admission → ℕ → Type 0
LoadPromise a r = r ≡ load_returned (told_admission a)

-- `common_divisor`
abbrev pub DivisorPromise : ℕ → ℕ → ℕ → Type 0
DivisorPromise a b r = GreatestDivisor a b r

-- `verdict`, on a list by value; `admit`, on a lent list of any length; `admit_first`, on the first n of an array
abbrev pub VerdictPromise : JobList → ℕ → Admission → Type 0
VerdictPromise l model r = told_admission r ≡ verdict_told l model

abbrev pub AdmitPromise : List Job → ℕ → Admission → Type 0
AdmitPromise jobs model r = told_admission r ≡ admit_of jobs model

abbrev pub AdmitFirstPromise : List Job → ℕ → ℕ → Admission → Type 0
AdmitFirstPromise jobs n model r = AdmitPromise (take n jobs) model r
