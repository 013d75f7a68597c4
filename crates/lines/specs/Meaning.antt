-- What a reader may check of the lines: those that document 01 quotes, one of each kind that `below` prints, and that every line fits
-- its room. Each statement is proved in proofs/, under its name.
use Rattle.std.specs.Prelude.{◌≡◌, List, [], ◌∷◌, ℕ, ◌≤◌, length, Result, Some, None}
use Rattle.job.specs.declared.refusal.Refusal.{Refusal}
use Rattle.job.specs.declared.refusal.Refusal.TheVariants.{Period, OriginalModel, CycleTooLong, SheetForm}
use Rattle.job.specs.Told.{Told, row, told}
use Rattle.admission.specs.Answer.{Admission, told_admission}
use Rattle.run.specs.declared.answer.Choice.TheVariants.{Given}
use Rattle.run.specs.declared.answer.Slot.{Slot}
use Rattle.run.specs.declared.state.Totals.{Totals}
use Rattle.shortfall.specs.declared.answer.Below.{Below}
use Rattle.text.specs.Ascii.{ascii}
use Rattle.lines.specs.Slot.{slot_text}
use Rattle.lines.specs.Summary.{admission_text, totals_text}
use Rattle.lines.specs.Refused.{refusal_text}
use Rattle.lines.specs.Answer.{answer_text}
use Rattle.lines.specs.Below.{below_text, fallen_text}
use Rattle.lines.specs.Promise.{SlotLinePromise, RefusalLinePromise, AnswerLinePromise, AdmissionLinePromise, TotalsLinePromise, JobLinePromise, FallenLinePromise}

-- 'slot 1 of case F: "1 0 t1 s1"'
abbrev pub SlotOneOfF : Type 0
SlotOneOfF = slot_text 1 (record { choice = Given 0; tags = 2; shorts = 2 }) ≡ ascii "1 0 t1 s1\n"

-- the first and the last line of case A, and case I, whose load is above its cycle
abbrev pub FirstLineOfA : Type 0
FirstLineOfA = admission_text (row 0 (12 ∷ 7 ∷ [])) ≡ ascii "cycle 12 load 7 admitted\n"

abbrev pub LastLineOfA : Type 0
LastLineOfA = totals_text (record { given = 4; idle = 2; tags = 0; shorts = 0 }) ≡ ascii "given 4 idle 2 tagged 0 short 0\n"

abbrev pub FirstLineOfI : Type 0
FirstLineOfI = admission_text (row 9 (25500 ∷ 25501 ∷ [])) ≡ ascii "cycle 25500 load 25501 over\n"

-- 'so 0 and 0 in the last two'
abbrev pub FirstLineTooLong : Type 0
FirstLineTooLong = admission_text (told CycleTooLong) ≡ ascii "cycle 0 load 0 cycle too long\n"

abbrev pub FirstLineNotJudged : Type 0
FirstLineNotJudged = admission_text (told OriginalModel) ≡ ascii "cycle 0 load 0 not judged\n"

-- '" job J" for 3 to 6 or " at P" for 13'
abbrev pub LineOfRowThree : Type 0
LineOfRowThree = refusal_text (told (Period 2)) ≡ ascii "refused 3 job 2\n"

abbrev pub LineOfRowThirteen : Type 0
LineOfRowThirteen = refusal_text (told (SheetForm 7)) ≡ ascii "refused 13 at 7\n"

-- 'job J never below', and 'job J below in A of B windows a cycle, first in slot S', slot 0 too
abbrev pub LineOfNever : Type 0
LineOfNever = below_text 2 (record { windows = 3; short = 0; first = None }) ≡ ascii "job 2 never below\n"

abbrev pub LineOfBelow : Type 0
LineOfBelow =
    below_text 1 (record { windows = 3; short = 2; first = Some 0 })
    ≡ ascii "job 1 below in 2 of 3 windows a cycle, first in slot 0\n"

-- 'no job falls below', and 'N of M jobs fall below'
abbrev pub LineOfNoneFallen : Type 0
LineOfNoneFallen = fallen_text 0 2 ≡ ascii "no job falls below\n"

abbrev pub LineOfOneFallen : Type 0
LineOfOneFallen = fallen_text 1 2 ≡ ascii "1 of 2 jobs fall below\n"

-- the room of a `Line`, 192 bytes, holds any
abbrev pub EveryLineFits : Type 0
EveryLineFits =
    ((n : ℕ) (s : Slot) → length (slot_text n s) ≤ 192)
    × ((t : Told) → length (admission_text t) ≤ 192)
    × ((t : Totals) → length (totals_text t) ≤ 192)
    × ((t : Told) → length (refusal_text t) ≤ 192)
    × ((job : ℕ) (b : Below) → length (below_text job b) ≤ 192)
    × ((fallen jobs : ℕ) → length (fallen_text fallen jobs) ≤ 192)

-- a line: its text, which fits
pub record Line (text line : List ℕ) : Type 0 where
  pub text_is : line ≡ text
  pub fits : length line ≤ 192

-- whatever the promises of the seven functions allow is the line of their text
pub record LinesWritten : Type 0 where
  pub slot :
      (number : ℕ) (slot : Slot) (line : List ℕ) → SlotLinePromise number slot line → Line (slot_text number slot) line
  pub refusal :
      (refusal : Refusal) (line : List ℕ) → RefusalLinePromise refusal line → Line (refusal_text (told refusal)) line
  pub answer :
      (number : ℕ) (answer : Result Slot Refusal) (line : List ℕ) → AnswerLinePromise number answer line
      → Line (answer_text number answer) line
  pub admission :
      (answer : Admission) (line : List ℕ) → AdmissionLinePromise answer line
      → Line (admission_text (told_admission answer)) line
  pub totals : (totals : Totals) (line : List ℕ) → TotalsLinePromise totals line → Line (totals_text totals) line
  pub job : (job : ℕ) (below : Below) (line : List ℕ) → JobLinePromise job below line → Line (below_text job below) line
  pub fallen :
      (fallen jobs : ℕ) (line : List ℕ) → FallenLinePromise fallen jobs line → Line (fallen_text fallen jobs) line
