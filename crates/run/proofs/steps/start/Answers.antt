-- Row 15, a refusal of the list, or its fresh state.
use mathlib.Core.Path.{sym, ◌∙◌, ap}
use Rattle.job.specs.declared.refusal.Refusal.TheVariants.{OrderOrModel}
use Rattle.job.specs.Told.{told_checked}
use Rattle.place.proofs.Meaning.{allowed_exactly}
use Rattle.run.proofs.StartLaws.{not_started, start_checks, state_passed, state_refused}
use Rattle.run.proofs.steps.start.Goals as goal

pub returns-then-not-allowed : goal.returns-then-not-allowed
returns-then-not-allowed c =
    let args = c.args in
    let told = not_started args.list args.setting (sym c.allowed.ensures ∙ c.if-not-allowed.true) in
    let made = c.not_started.ensures in
    (ap told_checked made.0 ∙ sym told, made.1 ∙ sym (state_refused args.list args.setting OrderOrModel told))

pub returns-in-Err : goal.returns-in-Err
returns-in-Err c =
    let args = c.args in
    let allowed = (allowed_exactly args.setting).0 (sym c.allowed.ensures ∙ c.if-not-allowed.false) in
    let told = start_checks args.list args.setting allowed ∙ sym c.in-Err.ensures.0 in
    let made = c.not_started-in-Err.ensures in
    (ap told_checked made.0 ∙ sym told, made.1 ∙ sym (state_refused args.list args.setting c.in-Err.refusal told))

pub returns-in-Ok : goal.returns-in-Ok
returns-in-Ok c =
    let args = c.args in
    let allowed = (allowed_exactly args.setting).0 (sym c.allowed.ensures ∙ c.if-not-allowed.false) in
    let told = start_checks args.list args.setting allowed ∙ sym c.in-Ok.ensures.0 in
    (sym told, c.fresh.ensures ∙ sym (state_passed args.list args.setting told))
