-- The loop's invariant: the cycle of the jobs before `at`, within the limit.
use Rattle.std.proofs.Common.{◌≡◌, ◌≤◌}
use Rattle.job.specs.Limit.{cycle_most}
use Rattle.admission.specs.Cycle.{cycle_upto}
use Rattle.admission.proofs.inner.common_cycle.Given as goal

abbrev pub invariant-loop-at : goal.invariant-loop-at
invariant-loop-at l = (l.cycle ≡ cycle_upto l.list.jobs l.at) × (l.cycle ≤ cycle_most)
