-- A slot is one pass over the places, and in it a job's tally is told with its place.
use mathlib.Core.Path.{◌≡◌, refl, ap, ap₂, ◌∙◌}
use Prim.Native.Nat.{◌≤◌}
use native.Mathlib.Omega.{arith}
use Rattle.job.specs.declared.list.JobList.{JobList}
use Rattle.job.specs.Limit.{cycle_most}
use Rattle.run.specs.State.{fresh_of}
use Rattle.run.specs.declared.state.State.{State}
use Rattle.run.proofs.FreshLaws.{fresh_sound}
use Rattle.shortfall.specs.Tally.{tallies_of}
use Rattle.shortfall.proofs.PassLaws.{fresh_stands, pass_starts, pass_sound, pass_fair, pass_short, pass_moved_sound, pass_more, stand_next}
use Rattle.shortfall.proofs.TallyLaws.{tallies_start, tally_now, tallies_more, tallies_same, tallies_next, tallies_done}
use Rattle.shortfall.proofs.inner.run_through.Goals as goal
use Rattle.shortfall.proofs.inner.run_through.Goals.{then-after, else-after}

pub invariant_of-choose : goal.invariant_of-choose
invariant_of-choose c = rw c.fresh-state.ensures (fresh_sound c.list.inside.list c.args.setting c.list.invariant c.requires)

pub loop-n-init : goal.loop-n-init
loop-n-init c = (
  fresh_stands c.list.inside.list c.args.setting c.list.invariant c.requires c.fresh-state.ensures c.choose-chosen.ensures,
  tallies_start _ (rw c.fresh-state.ensures c.list.invariant.count.high) c.none-tallies.ensures,
)

pub loop-i-init : goal.loop-i-init
loop-i-init c = (pass_starts c.loop-n.invariant.0 c.nobody-best.ensures, c.loop-n.invariant.1)

pub invariant_of-sound : goal.invariant_of-sound
invariant_of-sound c = record { sound = pass_sound c.loop-i.invariant.0 c.loop-i-test.true }

pub passed-after-requires : goal.passed-after-requires
passed-after-requires c = pass_fair c.loop-i.invariant.0 c.loop-i-test.true

pub noted-requires : goal.noted-requires
noted-requires c =
    let short : c.cycle.inside.slots ≤ cycle_most = c.cycle.invariant in
    omega (arith, tally_now c.loop-i.invariant.1 c.loop-i-test.true)

pub invariant_of-sound-in-loop-i : goal.invariant_of-sound-in-loop-i
invariant_of-sound-in-loop-i c =
    record { sound = pass_moved_sound c.loop-i.invariant.0 c.loop-i-test.true c.passed-after.ensures }

pub loop-i-preserved : goal.loop-i-preserved
loop-i-preserved c =
    let listed = c.loop-i-test.true in
    let short = pass_short c.loop-i.invariant.0 listed c.passed-after.ensures in (
      pass_more c.loop-i.invariant.0 listed c.passed-after.ensures c.better-best.ensures,
      elim c.if-after.branch [
        | then-after w ↦ rw w.tallies-is (tallies_more c.loop-i.invariant.1 listed short w.if-after.true w.noted.ensures)
        | else-after w ↦ rw w.tallies-is (tallies_same c.loop-i.invariant.1 listed short w.if-after.false)
      ],
    )

pub loop-n-preserved : goal.loop-n-preserved
loop-n-preserved c =
    let all : c.loop-i.i ≡ c.fresh-state.result.count = omega arith in
    let short : c.cycle.inside.slots ≤ cycle_most = c.cycle.invariant in
    let clock = ap (λ (s : State). s.clock) c.fresh-state.ensures in
    (stand_next c.loop-i.invariant.0 (omega (arith, clock)) all, tallies_next c.loop-i.invariant.1 all)

pub returns : goal.returns
returns c =
    let all : c.loop-n.n ≡ c.cycle.inside.slots = omega arith in
    tallies_done c.loop-n.invariant.1 refl
    ∙ ap₂ tallies_of (c.fresh-state.ensures ∙ ap (λ (l : JobList). fresh_of l c.args.setting) c.list.view_is) (all ∙ c.cycle.view_is)
