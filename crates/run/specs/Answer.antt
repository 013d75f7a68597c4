-- The paper's values of a choice, a slot and a step.
use Rattle.std.specs.Prelude.{ℕ, ◌/◌, ◌%◌, ◌^◌, Bool, List, [], ◌∷◌, eqb, Result}
use Rattle.job.specs.declared.refusal.Refusal.{Refusal}
use Rattle.job.specs.Told.{Told, told_answer}
use Rattle.run.specs.declared.answer.Choice.{Choice}
use Rattle.run.specs.declared.answer.Choice.TheVariants.{Given, Idle}
use Rattle.run.specs.declared.answer.Slot.{Slot}

-- a job's number, or nothing
abbrev pub told_choice : Choice → List ℕ
told_choice (Given j) = j ∷ []
told_choice Idle = []

-- 'one byte each, 0 to 15 or 255 for idle'
abbrev pub byte_of : Choice → ℕ
byte_of (Given j) = j
byte_of Idle = 255

-- a set is a mask: 'bit j' is job j
abbrev pub member : ℕ → ℕ → Bool
member mask i = eqb (mask / 2 ^ i % 2) 1

-- the two sets, and the choice
abbrev pub told_slot : Slot → List ℕ
told_slot a = a.tags ∷ a.shorts ∷ told_choice a.choice

abbrev pub told_step : Result Slot Refusal → Told
told_step = told_answer told_slot
