-- The outer loop's invariant: the bytes before this one are written, and places, totals and choice are those of the state after so many slots. The inner loop's: the places before `i` are moved on, and `best` is the nearest of them.
use lib.ListN.{length}
use Rattle.timetable.proofs.FillLaws.{Filling, Passing}
use Rattle.timetable.proofs.inner.fill.Given as goal

abbrev pub invariant-loop-i : goal.invariant-loop-i
invariant-loop-i l = Passing l.setting l.initial.places l.chosen l.count l.places l.best l.tagged l.short l.i

abbrev pub invariant-loop-byte : goal.invariant-loop-byte
invariant-loop-byte l = Filling l.state (length l.initial.buf) l.buf l.places l.totals l.chosen l.byte-index
