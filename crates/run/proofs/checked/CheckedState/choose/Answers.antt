-- The invariant: the best so far is the one to choose among the places before `at`.
use mathlib.Core.Path.{◌≡◌, ap, ◌∙◌}
use native.Mathlib.Omega.{arith}
use Rattle.place.specs.declared.inner.choice.Held.{Held}
use Rattle.run.specs.Choice.{held_upto, chosen_of}
use Rattle.run.proofs.HereLaws.{job_sound}
use Rattle.run.proofs.ChoiceLaws.{one_more_held}
use Rattle.run.proofs.checked.CheckedState.choose.Goals as goal

pub loop-at-init : goal.loop-at-init
unfolding held_upto
loop-at-init c = c.nobody-best.ensures

pub invariant_of-q : goal.invariant_of-q
invariant_of-q c = record { sound = job_sound c.self.invariant _ c.loop-at-test.true }

pub loop-at-preserved : goal.loop-at-preserved
loop-at-preserved c =
    let s = c.self.inside.state in
    one_more_held s.setting s.places c.loop-at.at c.loop-at.invariant c.better-best.ensures

pub returns : goal.returns
unfolding chosen_of
returns c =
    let s = c.self.inside.state in
    let all : c.loop-at.at ≡ s.count = omega arith in
    ap (λ (h : Held). h.at) (c.loop-at.invariant ∙ ap (held_upto s.setting s.places) all) ∙ ap chosen_of c.self.view_is
