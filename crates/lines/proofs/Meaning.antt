-- The statements of specs/Meaning about the lines.
use mathlib.Core.Path.{◌≡◌, refl}
use mathlib.Core.List.{List}
use Prim.Native.Nat.{ℕ, ◌≤◌}
use lib.ListN.{length}
use Rattle.std.specs.Prelude.{Result, Ok, Err}
use Rattle.job.specs.declared.refusal.Refusal.{Refusal}
use Rattle.job.specs.Told.{told}
use Rattle.run.specs.declared.answer.Slot.{Slot}
use Rattle.text.specs.Decimal.{digits_of, count_in, decimal_of}
use Rattle.admission.specs.Answer.{told_admission, cycle_returned, load_returned}
use Rattle.lines.specs.Slot.{set_text, slot_text}
use Rattle.lines.specs.Summary.{admission_text, totals_text}
use Rattle.lines.specs.Refused.{refusal_text}
use Rattle.lines.specs.Answer.{answer_text}
use Rattle.lines.specs.Below.{below_text, fallen_text}
use Rattle.lines.specs.Meaning.{SlotOneOfF, FirstLineOfA, LastLineOfA, FirstLineOfI, FirstLineTooLong, FirstLineNotJudged, LineOfRowThree, LineOfRowThirteen, LineOfNever, LineOfBelow, LineOfNoneFallen, LineOfOneFallen, EveryLineFits, Line, LinesWritten}
use Rattle.lines.proofs.LengthLaws.{slot_fits, admission_fits, totals_fits, refusal_fits, below_fits, fallen_fits}

pub slot_one_of_f : SlotOneOfF
unfolding slot_text set_text decimal_of digits_of count_in
slot_one_of_f = refl

pub first_line_of_a : FirstLineOfA
unfolding admission_text cycle_returned load_returned decimal_of digits_of count_in
first_line_of_a = refl

pub last_line_of_a : LastLineOfA
unfolding totals_text decimal_of digits_of count_in
last_line_of_a = refl

pub first_line_of_i : FirstLineOfI
unfolding admission_text cycle_returned load_returned decimal_of digits_of count_in
first_line_of_i = refl

pub first_line_too_long : FirstLineTooLong
unfolding admission_text cycle_returned load_returned decimal_of digits_of count_in
first_line_too_long = refl

pub first_line_not_judged : FirstLineNotJudged
unfolding admission_text cycle_returned load_returned decimal_of digits_of count_in
first_line_not_judged = refl

pub line_of_row_three : LineOfRowThree
unfolding refusal_text decimal_of digits_of count_in
line_of_row_three = refl

pub line_of_row_thirteen : LineOfRowThirteen
unfolding refusal_text decimal_of digits_of count_in
line_of_row_thirteen = refl

pub line_of_never : LineOfNever
unfolding below_text decimal_of digits_of count_in
line_of_never = refl

pub line_of_below : LineOfBelow
unfolding below_text decimal_of digits_of count_in
line_of_below = refl

pub line_of_none_fallen : LineOfNoneFallen
unfolding fallen_text
line_of_none_fallen = refl

pub line_of_one_fallen : LineOfOneFallen
unfolding fallen_text decimal_of digits_of count_in
line_of_one_fallen = refl

pub every_line_fits : EveryLineFits
every_line_fits = (slot_fits, admission_fits, totals_fits, refusal_fits, below_fits, fallen_fits)

-- a text that fits
line_of : {text line : List ℕ} → length text ≤ 192 → line ≡ text → Line text line
line_of fits is = record { text_is = is; fits = rw is fits }

answer_fits : (number : ℕ) (answer : Result Slot Refusal) → length (answer_text number answer) ≤ 192
answer_fits number (Ok slot) = slot_fits number slot
answer_fits number (Err refusal) = refusal_fits (told refusal)

pub lines_written : LinesWritten
lines_written =
    record {
      slot = λ number slot line. line_of (slot_fits number slot);
      refusal = λ refusal line. line_of (refusal_fits (told refusal));
      answer = λ number answer line. line_of (answer_fits number answer);
      admission = λ answer line. line_of (admission_fits (told_admission answer));
      totals = λ totals line. line_of (totals_fits totals);
      job = λ job below line. line_of (below_fits job below);
      fallen = λ fallen jobs line. line_of (fallen_fits fallen jobs);
    }
