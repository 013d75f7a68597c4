-- The statement of specs/RepeatMeaning: calls of `step` are the slots of the fresh state, and those repeat.
use mathlib.Core.Path.{◌≡◌, sym, ap, ◌∙◌}
use Prim.Native.Nat.{ℕ, ◌+◌}
use native.Mathlib.Nat.{add_comm}
use native.Mathlib.Omega.{arith}
use lib.ListN.{length}
use Rattle.run.specs.declared.state.State.{State}
use Rattle.run.specs.State.{fresh_of}
use Rattle.run.specs.Slot.{turn_of}
use Rattle.run.specs.Run.{after_slots}
use Rattle.run.proofs.CallLaws.{slots_at, run_slots}
use Rattle.run.proofs.AgainLaws.{Alike, alike_slot}
use Rattle.rules.specs.Meaning.{no_slot}
use Rattle.rules.specs.RepeatMeaning.{RunRepeats}
use Rattle.rules.proofs.Meaning.{run_short}
use Rattle.rules.proofs.RepeatLaws.{again}

pub run_repeats : RunRepeats
run_repeats l setting jobs allowed h whole slots later state after run more long =
    let first = run_slots run in
    let second = run_slots more in
    let fits = run_short l setting jobs allowed later after more in
    let same : (n : ℕ) → Alike (after_slots (fresh_of l setting) (h + n)) (after_slots (fresh_of l setting) n) =
    again l setting jobs allowed h whole (omega arith) in
    let last : length later ≡ h + length slots = long ∙ add_comm (length slots) h in (
      ap (λ (x : State). x.places) (second.state_is ∙ ap (after_slots (fresh_of l setting)) last)
          ∙ (same (length slots)).places
          ∙ sym (ap (λ (x : State). x.places) first.state_is),
      λ n inside.
          slots_at no_slot second (n + h) (omega arith)
          ∙ ap (λ (x : ℕ). (turn_of (after_slots (fresh_of l setting) x)).slot) (add_comm n h)
          ∙ alike_slot (after_slots (fresh_of l setting) (h + n)) (after_slots (fresh_of l setting) n) (same n)
          ∙ sym (slots_at no_slot first n inside),
    )
