-- 'The next n choices are written from a stated offset of the caller's buffer, one byte each .. ; other bytes stay.'
use Rattle.std.specs.Prelude.{ℕ, ◌+◌, Bool, cond, List, [], leb, eqb, length}
use Rattle.job.specs.Told.{Told, row, passed}
use Rattle.run.specs.declared.state.State.{State}
use Rattle.run.specs.State.{clock_most}
use Rattle.run.specs.Range.{state_in_range}
use Rattle.run.specs.Run.{after_slots, choices_of}
use Rattle.text.specs.Written.{written}

-- 'Tests: 10, 12 (offset + n above the length), 11 (clock + n above its limit).'
unfoldable pub write_told : State → ℕ → ℕ → ℕ → Told
write_told s len offset n =
    cond (state_in_range s)
    (cond (leb (offset + n) len)
    (cond (leb (s.clock + n) clock_most) passed (row 11 []))
    (row 12 []))
    (row 10 [])

abbrev pub writes : State → ℕ → ℕ → ℕ → Bool
writes s len offset n = eqb (write_told s len offset n).number 0

-- 'It returns the state after those n slots.' 'A refused .. timetable writes nothing; a state handed in comes back equal.'
unfoldable pub write_state : State → ℕ → ℕ → ℕ → State
write_state s len offset n = cond (writes s len offset n) (after_slots s n) s

unfoldable pub write_bytes : State → List ℕ → ℕ → ℕ → List ℕ
write_bytes s bytes offset n =
    cond (writes s (length bytes) offset n) (written bytes offset (choices_of s n)) bytes
