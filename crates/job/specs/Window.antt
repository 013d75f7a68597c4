-- 'Its window is k times T slots; windows do not overlap.'
use Rattle.std.specs.Prelude.{ℕ, ◌*◌}
use Rattle.job.specs.declared.record.Job.{Job}

abbrev pub window_of : Job → ℕ
window_of j = j.k * j.t
