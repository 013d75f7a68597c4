-- 'The load is the sum over jobs of m times C times H/(kT).'
use Rattle.std.specs.Prelude.{ℕ, zero, suc, ◌+◌, ◌*◌, ◌/◌, List}
use Rattle.job.specs.declared.record.Job.{Job}
use Rattle.job.specs.declared.list.JobList.{JobList}
use Rattle.job.specs.Check.{job_at}
use Rattle.job.specs.Window.{window_of}

abbrev pub share_of : Job → ℕ → ℕ
share_of j h = j.m * j.c * (h / window_of j)

-- the load of the first n jobs in h slots
unfoldable pub load_upto : List Job → ℕ → ℕ → ℕ
load_upto jobs h zero = 0
load_upto jobs h (suc n) = load_upto jobs h n + share_of (job_at jobs n) h

abbrev pub load_of : JobList → ℕ → ℕ
load_of l h = load_upto l.jobs h l.count
