-- No line is longer than 192 bytes.
use Rattle.std.proofs.Common.{◌+◌, ◌*◌, ◌≤◌, length}
use Rattle.below.proofs.put_jobs.Given as goal

abbrev pub invariant-loop-job : goal.invariant-loop-job
invariant-loop-job l = length l.out ≤ length l.initial.out + 192 * l.job
