-- What the public operation of `timetable` promises, by name: its contract says the name, and promises/specs/Unique speaks of it.
use Rattle.std.specs.Prelude.{◌≡◌, List, ℕ, length, Result}
use Rattle.job.specs.declared.refusal.Refusal.{Refusal}
use Rattle.job.specs.Told.{told_checked}
use Rattle.run.specs.declared.state.State.{State}
use Rattle.timetable.specs.Table.{write_told, write_state, write_bytes}

-- `write`: the state and the bytes of the lent buffer before; the answer; the state and the bytes after
abbrev pub WritePromise : State → List ℕ → ℕ → ℕ → Result (Unit {0}) Refusal → State → List ℕ → Type 0
WritePromise s before offset n r next after =
    (told_checked r ≡ write_told s (length before) offset n)
    × (next ≡ write_state s (length before) offset n)
    × (after ≡ write_bytes s before offset n)
