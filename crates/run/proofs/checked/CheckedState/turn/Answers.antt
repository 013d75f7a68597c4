use mathlib.Core.Path.{subst}
use native.Mathlib.Omega.{arith}
use Rattle.run.specs.Sound.{SoundState}
use Rattle.run.specs.Slot.{turn_of}
use Rattle.run.proofs.MovingLaws.{all_bounded}
use Rattle.run.proofs.checked.CheckedState.turn.Goals as goal

pub overflow_cast-slot : goal.overflow_cast-slot
overflow_cast-slot c =
    let sound = subst SoundState c.self.view_is c.self.invariant in
    let b = all_bounded c.args.self _ sound.count.high c.all_moved-all.ensures in
    omega arith

pub overflow_cast-slot-2 : goal.overflow_cast-slot-2
overflow_cast-slot-2 c =
    let sound = subst SoundState c.self.view_is c.self.invariant in
    let b = all_bounded c.args.self _ sound.count.high c.all_moved-all.ensures in
    omega arith

pub returns : goal.returns
unfolding turn_of
returns c = simp (c.self.view_is, c.counted.ensures, c.choice_of.ensures, c.all_moved-all.ensures, c.choose-at.ensures)
