-- How long the parts of a line are at most, and that every line fits its room of 192 bytes.
use mathlib.Core.Path.{◌≡◌}
use mathlib.Core.Bool.{Bool, true, false, cond, ◌&&◌}
use mathlib.Core.List.{List, [], ◌++◌, append_assoc, append-nil}
use Prim.Native.Nat.{ℕ, ◌≤◌}
use native.Mathlib.Omega.{arith}
use Rattle.std.specs.Prelude.{Option, Some, None}
use lib.Dec.{leb, eqb}
use lib.ListN.{length, get_or, length-append}
use Rattle.job.specs.Limit.{count_most}
use Rattle.job.specs.Told.{Told}
use Rattle.run.specs.declared.answer.Choice.{Choice}
use Rattle.run.specs.declared.answer.Choice.TheVariants.{Given, Idle}
use Rattle.run.specs.declared.answer.Slot.{Slot}
use Rattle.run.specs.declared.state.Totals.{Totals}
use Rattle.shortfall.specs.declared.answer.Below.{Below}
use Rattle.text.specs.Ascii.{ascii}
use Rattle.text.specs.Decimal.{decimal_of}
use Rattle.text.proofs.PrintLaws.{decimal_most}
use Rattle.lines.specs.Parts.{labelled}
use Rattle.lines.specs.Slot.{choice_text, set_text, slot_text}
use Rattle.lines.specs.Summary.{verdict_word, admission_text, totals_text}
use Rattle.lines.specs.Refused.{value_text, refusal_text}
use Rattle.lines.specs.Below.{fall_text, below_text, fallen_text}
use Rattle.lines.proofs.SetLaws.{set_most}

pub choice_most : (choice : Choice) → length (choice_text choice) ≤ 20
choice_most (Given j) = decimal_most j
choice_most Idle = omega arith

pub word_most : (number : ℕ) → length (verdict_word number) ≤ 16
word_most number = go (eqb number 0) (eqb number 8) (eqb number 9)
  where
    go :
        (admitted long over : Bool)
        → length (cond admitted (ascii " admitted\n") (cond long (ascii " cycle too long\n") (cond over (ascii " over\n") (ascii " not judged\n")))) ≤ 16
    go true long over = omega arith
    go false true over = omega arith
    go false false true = omega arith
    go false false false = omega arith

pub value_most : (t : Told) → length (value_text t) ≤ 25
value_most t = go (leb 3 t.number && leb t.number 6) (eqb t.number 13)
  where
    value : ℕ
    value = get_or t.values 0 0

    go :
        (of_job of-place : Bool)
        → length (cond of_job (labelled (ascii " job ") value) (cond of-place (labelled (ascii " at ") value) [])) ≤ 25
    go true of-place = omega (arith, decimal_most value)
    go false true = omega (arith, decimal_most value)
    go false false = omega arith

pub members_most : (label : List ℕ) (set : ℕ) → length label ≡ 2 → length (set_text label set count_most) ≤ 54
members_most label set two = set_most label set two count_most (omega arith)

pub fall_most : (short windows : ℕ) (first : Option ℕ) → length (fall_text short windows first) ≤ 107
fall_most short windows None = omega arith
fall_most short windows (Some n) = grind (arith, length-append, decimal_most)

-- what the room and the text of a line are found by: its parts one after the other, and how long each is at most
pub ruleset parts = (append_assoc, append-nil, length-append, decimal_most, choice_most, members_most, value_most, word_most, fall_most)

pub slot_fits : (n : ℕ) (s : Slot) → length (slot_text n s) ≤ 192
unfolding slot_text
slot_fits n s = grind (arith, parts)

pub admission_fits : (t : Told) → length (admission_text t) ≤ 192
unfolding admission_text
admission_fits t = grind (arith, parts)

pub totals_fits : (t : Totals) → length (totals_text t) ≤ 192
unfolding totals_text
totals_fits t = grind (arith, parts)

pub refusal_fits : (t : Told) → length (refusal_text t) ≤ 192
unfolding refusal_text
refusal_fits t = grind (arith, parts)

pub below_fits : (job : ℕ) (b : Below) → length (below_text job b) ≤ 192
unfolding below_text
below_fits job b = grind (arith, parts)

pub fallen_fits : (fallen jobs : ℕ) → length (fallen_text fallen jobs) ≤ 192
unfolding fallen_text
fallen_fits fallen jobs = go (eqb fallen 0)
  where
    go :
        (none : Bool)
        → length (cond none (ascii "no job falls below\n") (decimal_of fallen ++ (labelled (ascii " of ") jobs ++ ascii " jobs fall below\n"))) ≤ 192
    go true = omega arith
    go false = grind (arith, parts)
