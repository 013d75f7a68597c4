-- Rows 10, 12 and 11, or the filled part put back into its place.
use mathlib.Core.Path.{◌≡◌, sym, ap, ◌∙◌}
use mathlib.Core.List.{List, ◌++◌}
use Prim.Native.Nat.{ℕ, ◌+◌, ◌-◌, ◌≤◌}
use native.Mathlib.Omega.{arith}
use lib.ListN.{length, take, drop, length-take, length-drop}
use lib.Seq.{drop-drop}
use Rattle.run.specs.Run.{after_slots, choices_of}
use Rattle.run.proofs.RangeLaws.{range_exactly}
use Rattle.run.proofs.RunLaws.{choices_long}
use Rattle.text.specs.Written.{written}
use Rattle.timetable.proofs.WriteLaws.{refused_ten, refused_twelve, refused_eleven, writes_on}
use Rattle.timetable.proofs.writer.write.Goals as goal

-- the part that is lent is n bytes long
part_long : (bytes : List ℕ) (offset n : ℕ) → offset + n ≤ length bytes → length (take (offset + n - offset) (drop offset bytes)) ≡ n
part_long bytes offset n h = simp (length-take, length-drop) (omega arith)

-- and it goes back into its place
put_back :
    (bytes new : List ℕ) (offset n : ℕ) {part : List ℕ} → part ≡ new → length new ≡ n
    → take offset bytes ++ (part ++ drop (offset + n - offset) (drop offset bytes)) ≡ written bytes offset new
put_back bytes new offset n e long =
    let end : offset + (offset + n - offset) ≡ offset + length new = omega arith in
    rw (e, drop-drop (offset + n - offset) offset bytes, end)

pub returns-then-not-in_range : goal.returns-then-not-in_range
returns-then-not-in_range c = refused_ten _ _ _ _ (sym c.in_range.ensures ∙ c.if-not-in_range.true)

pub returns-then-buf-offset : goal.returns-then-buf-offset
returns-then-buf-offset c = refused_twelve _ _ _ _ (sym c.in_range.ensures ∙ c.if-not-in_range.false) (omega arith)

pub returns-then-buf-offset-2 : goal.returns-then-buf-offset-2
returns-then-buf-offset-2 c = refused_twelve _ _ _ _ (sym c.in_range.ensures ∙ c.if-not-in_range.false) (omega arith)

pub returns-then-slots_left-n : goal.returns-then-slots_left-n
returns-then-slots_left-n c = refused_eleven _ _ _ _ (sym c.in_range.ensures ∙ c.if-not-in_range.false) (omega arith) (omega arith)

pub invariant_of-fill : goal.invariant_of-fill
invariant_of-fill c = (range_exactly c.args.state.now).0 (sym c.in_range.ensures ∙ c.if-not-in_range.false)

pub returns : goal.returns
returns c =
    let start = c.args in
    let s = start.state.now in
    let bytes = start.buf.now in
    let fits : start.offset + start.n ≤ length bytes = omega arith in
    let done = writes_on s bytes start.offset start.n (sym c.in_range.ensures ∙ c.if-not-in_range.false) fits (omega arith) in
    let long = part_long bytes start.offset start.n fits in
    let filled = c.fill.ensures in (
      done.0,
      filled.value ∙ ap (after_slots s) long ∙ done.1,
      put_back bytes (choices_of s start.n) start.offset start.n (filled.buf_after ∙ ap (choices_of s) long) (choices_long s start.n) ∙ done.2,
    )
