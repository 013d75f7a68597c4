-- The outer loop's invariant: places and choice are those after n slots, and the tallies are of these; the inner loop's: the places before `i` are moved on, and the tallies of those jobs have the slot too.
use Rattle.shortfall.proofs.PassLaws.{Passing, Standing}
use Rattle.shortfall.proofs.TallyLaws.{Tallied}
use Rattle.shortfall.proofs.inner.run_through.Given as goal

abbrev pub invariant-loop-i : goal.invariant-loop-i
invariant-loop-i l = Passing l.state l.n l.chosen l.places l.best l.i × Tallied l.state l.n l.i l.tallies

abbrev pub invariant-loop-n : goal.invariant-loop-n
invariant-loop-n l = Standing l.state l.places l.chosen l.n × Tallied l.state l.n 0 l.tallies
