-- The loop's invariant: the jobs before `at` are put.
use Rattle.std.proofs.Common.{◌≡◌}
use Rattle.job.specs.Promise.{PutUpto}
use Rattle.job.proofs.list.JobList.by.Given as goal

abbrev pub invariant-loop-at : goal.invariant-loop-at
invariant-loop-at g l = (l.list.count ≡ l.count) × PutUpto (goal.F-post g l.job) l.at l.list.jobs
