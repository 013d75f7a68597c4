-- The loop's invariant: the answers of the jobs before this one are written, up to `end`.
use Rattle.text.proofs.WrittenLaws.{Ends}
use Rattle.entry.specs.Below.{answers_upto}
use Rattle.entry.proofs.answers.put_answers.Given as goal

abbrev pub invariant-loop-below : goal.invariant-loop-below
invariant-loop-below l = Ends l.fn.buf 0 (answers_upto l.jobs l.below-index) l.buf l.end
