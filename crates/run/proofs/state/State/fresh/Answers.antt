-- The loop's invariant: the jobs before `at` are opened.
use mathlib.Core.Path.{ap}
use lib.ListN.{replicate}
use Rattle.job.specs.Limit.{count_most}
use Rattle.job.specs.Filled.{filled_upto}
use Rattle.job.proofs.FilledLaws.{filled_more}
use Rattle.run.proofs.state.State.fresh.Goals as goal

pub loop-at-init : goal.loop-at-init
unfolding filled_upto
loop-at-init c = ap (replicate count_most) c.blank-places.ensures

pub loop-at-preserved : goal.loop-at-preserved
loop-at-preserved c = filled_more _ _ c.loop-at.at c.loop-at.invariant c.opened.ensures
