-- The loop's invariant: the jobs before `at` are told.
use Rattle.std.proofs.Common.{◌≡◌}
use Rattle.shortfall.specs.Shortfall.{judged_upto}
use Rattle.shortfall.proofs.judge.told.Given as goal

abbrev pub invariant-loop-at : goal.invariant-loop-at
invariant-loop-at l = l.all ≡ judged_upto l.list l.cycle l.tallies l.at
