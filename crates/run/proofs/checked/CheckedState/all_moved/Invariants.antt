-- The invariant: the places before `i` are moved on.
use Rattle.run.proofs.MovingLaws.{Moving}
use Rattle.run.proofs.checked.CheckedState.all_moved.Given as goal

abbrev pub invariant-loop-i : goal.invariant-loop-i
invariant-loop-i l = Moving l.self-inside.state l.at l.all l.one l.i
