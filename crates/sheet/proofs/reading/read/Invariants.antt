-- The loop's invariant: the bytes before `at` fitted, and the reader is the one after them.
use Rattle.sheet.proofs.AlongLaws.{Along}
use Rattle.sheet.proofs.reading.read.Given as goal

abbrev pub invariant-loop-at : goal.invariant-loop-at
invariant-loop-at l = Along l.bytes l.reader l.at
