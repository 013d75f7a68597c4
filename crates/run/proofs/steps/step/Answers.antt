-- Rows 10 and 11, or the slot.
use mathlib.Core.Path.{sym, ◌∙◌, ap}
use Rattle.std.specs.Prelude.{Ok}
use Rattle.run.specs.declared.inner.slot.Turned.{Turned}
use Rattle.run.specs.Answer.{told_step}
use Rattle.run.proofs.RangeLaws.{range_exactly}
use Rattle.run.proofs.AnswerLaws.{refused_ten, refused_eleven, steps_on}
use Rattle.run.proofs.steps.step.Goals as goal

pub returns-then-not-in_range : goal.returns-then-not-in_range
returns-then-not-in_range c = refused_ten _ (sym c.in_range.ensures ∙ c.if-not-in_range.true)

pub returns-then-state : goal.returns-then-state
returns-then-state c = refused_eleven _ (sym c.in_range.ensures ∙ c.if-not-in_range.false) c.if-state.true

pub invariant_of-turn : goal.invariant_of-turn
invariant_of-turn c = (range_exactly c.args.state.now).0 (sym c.in_range.ensures ∙ c.if-not-in_range.false)

pub returns : goal.returns
returns c =
    let turned = c.turn-turned.ensures in
    let done = steps_on c.args.state.now (sym c.in_range.ensures ∙ c.if-not-in_range.false) c.if-state.false in
    (ap (λ (t : Turned). told_step (Ok t.slot)) turned ∙ done.0, ap (λ (t : Turned). t.state) turned ∙ done.1)
