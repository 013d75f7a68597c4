-- 'The admission check reads a lent list of job records, of any length, without changing it.'
use Rattle.std.specs.Prelude.{ℕ, List, length}
use Rattle.job.specs.declared.record.Job.{Job}
use Rattle.job.specs.declared.list.JobList.{JobList}
use Rattle.job.specs.Told.{Told}
use Rattle.job.specs.Check.{job_at}
use Rattle.job.specs.Filled.{list_by}
use Rattle.admission.specs.Verdict.{verdict_told}

-- a list of any length as a list by value
abbrev pub list_of : List Job → JobList
list_of xs = list_by (job_at xs) (length xs)

-- admission of a list of any length
abbrev pub admit_of : List Job → ℕ → Told
admit_of xs model = verdict_told (list_of xs) model
