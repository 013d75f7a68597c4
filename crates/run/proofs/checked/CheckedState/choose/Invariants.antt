-- The invariant: the best so far is the one to choose among the places before `at`.
use mathlib.Core.Path.{◌≡◌}
use Rattle.run.specs.Choice.{held_upto}
use Rattle.run.proofs.checked.CheckedState.choose.Given as goal

abbrev pub invariant-loop-at : goal.invariant-loop-at
invariant-loop-at l = l.best ≡ held_upto l.self-inside.state.setting l.self-inside.state.places l.at
