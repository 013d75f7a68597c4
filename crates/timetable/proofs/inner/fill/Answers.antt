-- The outer loop's invariant: the bytes before this one are written, and places, totals and choice are those of the state after so many slots. The inner loop's: the places before `i` are moved on, and `best` is the nearest of them.
use mathlib.Core.Path.{◌≡◌, sym, ap, ◌∙◌}
use lib.ListN.{length}
use native.Mathlib.Omega.{arith}
use Rattle.run.specs.Choice.{chosen_of}
use Rattle.run.specs.Run.{after_slots, choices_of}
use Rattle.run.specs.declared.state.State.{State}
use Rattle.run.proofs.SlotLaws.{byte_high, plus_byte}
use Rattle.timetable.proofs.FillLaws.{fill_starts, done_state, done_bytes, fill_ready, fill_more, pass_starts, pass_counts, pass_sound, pass_fair, pass_moved_sound, pass_more, pass_done}
use Rattle.timetable.proofs.inner.fill.Goals as goal

pub loop-byte-init : goal.loop-byte-init
loop-byte-init c =
    let same = c.checked.view_is in
    fill_starts c.checked.invariant c.args.buf.now (rw same c.requires) (c.choose-chosen.ensures ∙ ap chosen_of (sym same))

pub loop-i-init : goal.loop-i-init
loop-i-init c = pass_starts _ _ _ _ (fill_ready c.loop-byte.invariant) c.nobody-best.ensures

pub invariant_of-moved : goal.invariant_of-moved
invariant_of-moved c = record { sound = pass_sound c.loop-i.invariant c.loop-i-test.true }

pub moved-outcome-requires : goal.moved-outcome-requires
moved-outcome-requires c = pass_fair c.loop-i.invariant c.loop-i-test.true

pub overflow_add-tagged : goal.overflow_add-tagged
overflow_add-tagged c = let counts = pass_counts c.loop-i.invariant in omega (arith, byte_high)

pub overflow_add-short : goal.overflow_add-short
overflow_add-short c = let counts = pass_counts c.loop-i.invariant in omega (arith, byte_high)

pub invariant_of-better : goal.invariant_of-better
invariant_of-better c = record { sound = pass_moved_sound c.loop-i.invariant c.loop-i-test.true c.moved-outcome.ensures }

pub loop-i-preserved : goal.loop-i-preserved
loop-i-preserved c =
    let o = c.moved-outcome.result in
    pass_more c.loop-i.invariant c.loop-i-test.true c.moved-outcome.ensures c.better-best.ensures (plus_byte o.tagged _) (plus_byte o.short _)

pub loop-byte-preserved : goal.loop-byte-preserved
loop-byte-preserved c =
    fill_more c.loop-byte.invariant (omega arith)
    (pass_done c.loop-i.invariant (let p = c.loop-i.invariant in omega arith)) c.byte_of.ensures c.counted-totals.ensures

pub returns-clause-value : goal.returns-clause-value
returns-clause-value c =
    let all : c.loop-byte.byte-index ≡ length c.args.buf.now = omega arith in
    done_state c.loop-byte.invariant all ∙ ap (λ (s : State). after_slots s (length c.args.buf.now)) c.checked.view_is

pub returns-clause-buf_after : goal.returns-clause-buf_after
returns-clause-buf_after c =
    let all : c.loop-byte.byte-index ≡ length c.args.buf.now = omega arith in
    done_bytes c.loop-byte.invariant all ∙ ap (λ (s : State). choices_of s (length c.args.buf.now)) c.checked.view_is
