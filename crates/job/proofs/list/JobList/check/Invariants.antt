-- The loop's invariant: the jobs before `at` pass.
use Rattle.std.proofs.Common.{◌≡◌}
use Rattle.job.specs.Told.{passed}
use Rattle.job.specs.Check.{jobs_told}
use Rattle.job.proofs.list.JobList.check.Given as goal

abbrev pub invariant-loop-at : goal.invariant-loop-at
invariant-loop-at l = jobs_told l.self.jobs l.at ≡ passed
