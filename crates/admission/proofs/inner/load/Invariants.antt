-- The loop's invariant: the sum is the load of the jobs before `at`, none of which has more than a cycle.
use Rattle.std.proofs.Common.{◌≡◌, ◌*◌, ◌≤◌}
use Rattle.job.specs.Limit.{cycle_most}
use Rattle.admission.specs.Load.{load_upto}
use Rattle.admission.proofs.inner.load.Given as goal

abbrev pub invariant-loop-at : goal.invariant-loop-at
invariant-loop-at l = (l.sum ≡ load_upto l.list.jobs l.cycle l.at) × (l.sum ≤ l.at * cycle_most)
