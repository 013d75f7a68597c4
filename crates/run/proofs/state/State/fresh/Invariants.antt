-- The loop's invariant: the jobs before `at` are opened.
use mathlib.Core.Path.{◌≡◌}
use Rattle.run.specs.State.{fresh_upto}
use Rattle.run.proofs.state.State.fresh.Given as goal

abbrev pub invariant-loop-at : goal.invariant-loop-at
invariant-loop-at l = l.places ≡ fresh_upto l.list.jobs l.at
