-- An array of 16 records, filled from the first on, and a list of jobs in such an array.
use Rattle.std.specs.Prelude.{ℕ, zero, suc, min, List, set, replicate}
use Rattle.job.specs.declared.record.Job.{Job}
use Rattle.job.specs.declared.list.JobList.{JobList}
use Rattle.job.specs.Limit.{count_most}
use Rattle.job.specs.Check.{no_job}

-- the first n records are f's, and `none` stands in those behind them
unfoldable pub filled_upto : {A : Type 0} → A → (ℕ → A) → ℕ → List A
filled_upto none f zero = replicate count_most none
filled_upto none f (suc n) = set (filled_upto none f n) n (f n)

-- a list before any of its jobs is put
abbrev pub empty_list : ℕ → JobList
empty_list n = record { jobs = replicate count_most no_job; count = n }

-- a list whose first n jobs are put
abbrev pub list_upto : (ℕ → Job) → ℕ → ℕ → JobList
list_upto job count n = record { jobs = filled_upto no_job job n; count = count }

-- a list of any count: of more than 16 jobs the first 16 are there, and the count says how many there are
abbrev pub list_by : (ℕ → Job) → ℕ → JobList
list_by job count = list_upto job count (min count count_most)
