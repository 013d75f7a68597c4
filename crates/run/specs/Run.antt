-- A run of many slots: the state after them, and their choices as bytes.
use Rattle.std.specs.Prelude.{ℕ, zero, suc, List, [], ◌∷◌, ◌++◌}
use Rattle.run.specs.declared.state.State.{State}
use Rattle.run.specs.Slot.{turn_of}
use Rattle.run.specs.Answer.{byte_of}

unfoldable pub after_slots : State → ℕ → State
after_slots s zero = s
after_slots s (suc n) = (turn_of (after_slots s n)).state

-- 'The next n choices .. one byte each, 0 to 15 or 255 for idle'
unfoldable pub choices_of : State → ℕ → List ℕ
choices_of s zero = []
choices_of s (suc n) = choices_of s n ++ (byte_of (turn_of (after_slots s n)).slot.choice ∷ [])
