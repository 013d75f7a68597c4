-- A turn tells one job more.
use mathlib.Core.Path.{refl, ap, ◌∙◌}
use Prim.Native.Nat.{◌+◌}
use native.Mathlib.Omega.{arith}
use lib.Dec.{ltb}
use Rattle.run.proofs.SlotLaws.{byte_high, plus_byte}
use Rattle.shortfall.proofs.JudgeLaws.{none_judged, one_more_judged, fallen_high}
use Rattle.shortfall.proofs.judge.told.Goals as goal

pub loop-at-init : goal.loop-at-init
loop-at-init c = none_judged c.args.list c.args.cycle c.args.tallies refl

pub overflow_add-all : goal.overflow_add-all
overflow_add-all c =
    let high = fallen_high c.args.list c.args.cycle c.args.tallies c.loop-at.at c.loop-at.invariant in
    let few = c.list.invariant.count.high in
    record { fits = omega (arith, byte_high (ltb 0 c.below-one.result.short)) }

pub loop-at-preserved : goal.loop-at-preserved
loop-at-preserved c =
    one_more_judged c.args.list c.args.cycle c.args.tallies c.loop-at.at c.loop-at.invariant (rw c.job.ensures at c.below-one.ensures)
    (ap (c.loop-at.all.fallen +◌) c.from.ensures ∙ plus_byte (ltb 0 c.below-one.result.short) _)
