-- What each line's function promises, by name: the contracts say these names, and promises/specs/Unique speaks of them.
use Rattle.std.specs.Prelude.{◌≡◌, List, ℕ, Result}
use Rattle.job.specs.declared.refusal.Refusal.{Refusal}
use Rattle.job.specs.Told.{told}
use Rattle.admission.specs.Answer.{Admission, told_admission}
use Rattle.run.specs.declared.state.Totals.{Totals}
use Rattle.run.specs.declared.answer.Slot.{Slot}
use Rattle.shortfall.specs.declared.answer.Below.{Below}
use Rattle.lines.specs.Slot.{slot_text}
use Rattle.lines.specs.Summary.{admission_text, totals_text}
use Rattle.lines.specs.Refused.{refusal_text}
use Rattle.lines.specs.Answer.{answer_text}
use Rattle.lines.specs.Below.{below_text, fallen_text}

-- a line is its text
abbrev pub LinePromise : List ℕ → List ℕ → Type 0
LinePromise text line = line ≡ text

-- `slot_line`, `refusal_line`, `answer_line`
abbrev pub SlotLinePromise : ℕ → Slot → List ℕ → Type 0
SlotLinePromise number slot = LinePromise (slot_text number slot)

abbrev pub RefusalLinePromise : Refusal → List ℕ → Type 0
RefusalLinePromise refusal = LinePromise (refusal_text (told refusal))

abbrev pub AnswerLinePromise : ℕ → Result Slot Refusal → List ℕ → Type 0
AnswerLinePromise number answer = LinePromise (answer_text number answer)

-- `admission_line`, `totals_line`
abbrev pub AdmissionLinePromise : Admission → List ℕ → Type 0
AdmissionLinePromise answer = LinePromise (admission_text (told_admission answer))

abbrev pub TotalsLinePromise : Totals → List ℕ → Type 0
TotalsLinePromise totals = LinePromise (totals_text totals)

-- `job_line`, `fallen_line`
abbrev pub JobLinePromise : ℕ → Below → List ℕ → Type 0
JobLinePromise job below = LinePromise (below_text job below)

abbrev pub FallenLinePromise : ℕ → ℕ → List ℕ → Type 0
FallenLinePromise fallen jobs = LinePromise (fallen_text fallen jobs)
