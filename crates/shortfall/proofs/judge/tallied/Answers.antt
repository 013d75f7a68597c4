-- By the run, or by demand 3, which tells what the run would show.
use mathlib.Core.Path.{subst}
use lib.Dec.{eqb}
use borrow.Author.Tests.{eqb-true}
use Rattle.job.specs.Sound.{SoundList}
use Rattle.job.proofs.TestLaws.{both}
use Rattle.shortfall.proofs.NeverLaws.{never_tallied}
use Rattle.shortfall.proofs.judge.tallied.Goals as goal

pub returns-then-load-cycle : goal.returns-then-load-cycle
returns-then-load-cycle c =
    let setting = c.args.setting in
    let tests = both (eqb setting.order 1) (eqb setting.model 0) c.if-setting.true in
    never_tallied c.args.list setting c.args.cycle (subst SoundList c.list.view_is c.list.invariant) c.requires.cycle_value
    (rw c.cycle.view_is at c.cycle.invariant) (rw (c.load.ensures, c.cycle.view_is) at c.if-load-cycle.true)
    (eqb-true setting.order 1 tests.0) (eqb-true setting.model 0 tests.1) c.none.ensures
