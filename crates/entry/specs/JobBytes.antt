-- 'job bytes, 6 a job: C and T (16 bits, low byte first), m, k': a list of jobs from bytes of any length.
use Rattle.std.specs.Prelude.{ℕ, ◌+◌, ◌*◌, ◌/◌, List, length, get_or}
use Rattle.job.specs.declared.record.Job.{Job}
use Rattle.job.specs.declared.list.JobList.{JobList}
use Rattle.job.specs.Filled.{list_by}

-- '16 bits, low byte first'
abbrev pub pair_at : List ℕ → ℕ → ℕ
pair_at bytes i = get_or bytes i 0 + 256 * get_or bytes (i + 1) 0

abbrev pub job_from : List ℕ → ℕ → Job
job_from bytes i =
    record {
      c = pair_at bytes (i * 6);
      t = pair_at bytes (i * 6 + 2);
      m = get_or bytes (i * 6 + 4) 0;
      k = get_or bytes (i * 6 + 5) 0;
    }

-- of more than 16 jobs the first 16 are read
abbrev pub list_from : List ℕ → JobList
list_from bytes = list_by (job_from bytes) (length bytes / 6)
