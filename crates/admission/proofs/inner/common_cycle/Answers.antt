-- One turn of the code is the cycle of one job more.
use mathlib.Core.Path.{◌≡◌, sym, ◌∙◌, ap, subst}
use native.Mathlib.Omega.{arith}
use Rattle.std.proofs.lemmas.Result.{err_from_is_err_and}
use Rattle.job.specs.Sound.{SoundList}
use Rattle.admission.specs.Cycle.{cycle_upto, within_told}
use Rattle.admission.proofs.CycleLaws.{cycle_none, cycle_more, told_short, within_short, next_refused}
use Rattle.admission.proofs.inner.common_cycle.Goals as goal

pub loop-at-init : goal.loop-at-init
loop-at-init c = (sym (cycle_none c.args.list.jobs), omega arith)

pub returns-in_err-cycle : goal.returns-in_err-cycle
returns-in_err-cycle c =
    let p = err_from_is_err_and c.from_residual.result c.from_residual.ensures.1 in
    let sound = subst SoundList c.list.view_is c.list.invariant in
    rw (p.1, p.2)
    (next_refused c.args.list c.loop-at.at c.in_err-cycle.field-0.0 sound (grind arith) c.loop-at.invariant.0 c.job.ensures c.in_err-cycle.ensures)

pub loop-at-preserved : goal.loop-at-preserved
loop-at-preserved c =
    let next = told_short c.in_ok-cycle.ensures in
    (cc (next.0, cycle_more c.args.list.jobs c.loop-at.at), next.1)

pub returns : goal.returns
returns c =
    let all : c.loop-at.at ≡ c.args.list.count = grind arith in
    sym (within_short c.loop-at.invariant.1) ∙ ap within_told (c.loop-at.invariant.0 ∙ ap (cycle_upto c.args.list.jobs) all)
