-- What the writer promises at each of its tests.
use mathlib.Core.Path.{◌≡◌, ap}
use mathlib.Core.Bool.{true, false, cond}
use mathlib.Core.List.{List}
use Prim.Native.Nat.{ℕ, ◌+◌, ◌≤◌, ◌<◌}
use lib.Dec.{eqb}
use lib.ListN.{length}
use borrow.Author.Tests.{le-leb, lt-leb}
use Rattle.std.specs.Prelude.{Result, Ok, Err}
use Rattle.job.specs.declared.refusal.Refusal.{Refusal}
use Rattle.job.specs.declared.refusal.Refusal.TheVariants.{StateOutOfRange, ClockAtLimit, BufferTooShort}
use Rattle.job.specs.Told.{Told, told_checked}
use Rattle.run.specs.declared.state.State.{State}
use Rattle.run.specs.State.{clock_most}
use Rattle.run.specs.Range.{state_in_range}
use Rattle.run.specs.Run.{after_slots, choices_of}
use Rattle.text.specs.Written.{written}
use Rattle.timetable.specs.Table.{write_told, write_state, write_bytes}
use Rattle.timetable.specs.Promise.{WritePromise}

module _ (s : State) (bytes : List ℕ) (offset n : ℕ) where
  abbrev state_by : Told → State
  state_by t = cond (eqb t.number 0) (after_slots s n) s

  abbrev bytes_by : Told → List ℕ
  bytes_by t = cond (eqb t.number 0) (written bytes offset (choices_of s n)) bytes

  -- whatever the answer, it decides about the rest
  promised :
      (r : Result (Unit {0}) Refusal) → told_checked r ≡ write_told s (length bytes) offset n
      → WritePromise s bytes offset n r (state_by (told_checked r)) (bytes_by (told_checked r))
  unfolding write_state write_bytes
  promised r e = (e, ap state_by e, ap bytes_by e)

  pub refused_ten : state_in_range s ≡ false → WritePromise s bytes offset n (Err StateOutOfRange) s bytes
  unfolding write_told
  refused_ten e = promised (Err StateOutOfRange) (rw e)

  module _ (sound : state_in_range s ≡ true) where
    pub refused_twelve : length bytes < offset + n → WritePromise s bytes offset n (Err BufferTooShort) s bytes
    unfolding write_told
    refused_twelve h = promised (Err BufferTooShort) (rw (sound, lt-leb (offset + n) (length bytes) h))

    pub refused_eleven :
        offset + n ≤ length bytes → clock_most < s.clock + n → WritePromise s bytes offset n (Err ClockAtLimit) s bytes
    unfolding write_told
    refused_eleven h c =
        promised (Err ClockAtLimit) (rw (sound, le-leb (offset + n) (length bytes) h, lt-leb (s.clock + n) clock_most c))

    pub writes_on :
        offset + n ≤ length bytes → s.clock + n ≤ clock_most
        → WritePromise s bytes offset n (Ok tt) (after_slots s n) (written bytes offset (choices_of s n))
    unfolding write_told
    writes_on h c =
        promised (Ok tt) (rw (sound, le-leb (offset + n) (length bytes) h, le-leb (s.clock + n) clock_most c))
