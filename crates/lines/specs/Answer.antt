-- What a step answers, as a line: the slot's, or the refusal's.
use Rattle.std.specs.Prelude.{ℕ, List, Result, Ok, Err}
use Rattle.job.specs.declared.refusal.Refusal.{Refusal}
use Rattle.job.specs.Told.{told}
use Rattle.run.specs.declared.answer.Slot.{Slot}
use Rattle.lines.specs.Slot.{slot_text}
use Rattle.lines.specs.Refused.{refusal_text}

abbrev pub answer_text : ℕ → Result Slot Refusal → List ℕ
answer_text number (Ok slot) = slot_text number slot
answer_text number (Err refusal) = refusal_text (told refusal)
