-- The invariant: the places before `i` are moved on.
use mathlib.Core.Path.{sym, ap, ◌∙◌}
use native.Mathlib.Omega.{arith}
use borrow.Author.Tests.{eqb-true}
use Rattle.run.specs.Choice.{chosen_of}
use Rattle.run.proofs.HereLaws.{job_sound}
use Rattle.run.proofs.ChoiceLaws.{chosen_candidate}
use Rattle.run.proofs.MovingLaws.{moving_starts, moving_reads, moving_more}
use Rattle.run.proofs.checked.CheckedState.all_moved.Goals as goal

pub invariant_of-sound : goal.invariant_of-sound
invariant_of-sound c =
    record { sound = rw (moving_reads c.loop-i.invariant) (job_sound c.self.invariant _ c.loop-i-test.true) }

pub moved-q-requires : goal.moved-q-requires
moved-q-requires c same =
    rw (moving_reads c.loop-i.invariant)
    (chosen_candidate c.self.inside.state _ (omega arith) (eqb-true _ _ same ∙ c.requires ∙ ap chosen_of (sym c.self.view_is)))

pub loop-i-init : goal.loop-i-init
loop-i-init c = moving_starts _ _

pub loop-i-preserved : goal.loop-i-preserved
loop-i-preserved c =
    moving_more c.loop-i.invariant (omega arith)
    c.moved-q.ensures
    c.plus_if.ensures
    c.plus_if-in-loop-i.ensures
    c.plus_if-in-loop-i-2.ensures
    c.plus_if-in-loop-i-3.ensures
