-- The tests in the order of the definition. Past the check the list passes, and so is sound; a cycle that is returned is the list's.
use mathlib.Core.Path.{sym, ◌∙◌, ap₂}
use native.Mathlib.Omega.{arith}
use Rattle.std.proofs.lemmas.Result.{err_from_is_err_and}
use Rattle.job.proofs.ToldLaws.{told_refuses}
use Rattle.admission.specs.Load.{load_of}
use Rattle.admission.specs.Verdict.{judged_told}
use Rattle.admission.proofs.CycleLaws.{told_short}
use Rattle.admission.proofs.VerdictLaws.{verdict_strange, verdict_refused, verdict_original, verdict_no_cycle, verdict_judged}
use Rattle.admission.proofs.decide.verdict.Goals as goal

pub returns-then-model-gt-ORIGINAL : goal.returns-then-model-gt-ORIGINAL
returns-then-model-gt-ORIGINAL c = sym (verdict_strange c.args.list c.args.model c.if-model-gt-ORIGINAL.true)

pub returns-in_err-checked : goal.returns-in_err-checked
returns-in_err-checked c =
    let p = err_from_is_err_and c.from_residual.result c.from_residual.ensures.1 in
    let r = c.in_err-checked.field-0.0 in
    rw (p.1, p.2)
    (sym (verdict_refused c.args.list c.args.model c.if-model-gt-ORIGINAL.false (sym c.in_err-checked.ensures.0) (told_refuses r)))

pub returns-then-model-eq-ORIGINAL : goal.returns-then-model-eq-ORIGINAL
returns-then-model-eq-ORIGINAL c =
    sym (verdict_original c.args.list c.args.model (sym c.in_ok-checked.ensures.0) c.if-model-eq-ORIGINAL.true)

pub returns-in_err-cycle : goal.returns-in_err-cycle
returns-in_err-cycle c =
    let p = err_from_is_err_and c.from_residual-in_err-cycle.result c.from_residual-in_err-cycle.ensures.1 in
    rw (p.1, p.2)
    (sym (verdict_no_cycle c.args.list c.args.model (sym c.in_ok-checked.ensures.0) (omega arith) c.in_err-cycle.field-0.0 (rw c.in_ok-checked.ensures.1 at c.in_err-cycle.ensures)))

pub returns : goal.returns
returns c =
    let list = c.args.list in
    let same = c.in_ok-checked.ensures.1 in
    let cycle = told_short (rw same at c.in_ok-cycle.ensures) in
    let judged = verdict_judged list c.args.model (sym c.in_ok-checked.ensures.0) (omega arith) (omega (arith, cycle)) in
    c.judged.ensures ∙ ap₂ judged_told cycle.0 (c.load.ensures ∙ ap₂ load_of same cycle.0) ∙ sym judged
