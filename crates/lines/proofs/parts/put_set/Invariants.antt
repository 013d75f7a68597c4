-- The loop's invariant: the members below `job` are put.
use Rattle.std.proofs.Common.{◌≡◌, ◌++◌}
use Rattle.lines.specs.Slot.{set_text}
use Rattle.lines.proofs.parts.put_set.Given as goal

abbrev pub invariant-loop-job : goal.invariant-loop-job
invariant-loop-job l = l.line ≡ l.initial.line ++ set_text l.label l.set l.job
