-- 'a line per slot: slot number, job or -, then t and number for each first tag, s and number for each short window, each after a
-- space, ascending (slot 1 of case F: "1 0 t1 s1")'
use Rattle.std.specs.Prelude.{ℕ, zero, suc, cond, List, [], ◌++◌}
use Rattle.job.specs.Limit.{count_most}
use Rattle.run.specs.declared.answer.Choice.{Choice}
use Rattle.run.specs.declared.answer.Choice.TheVariants.{Given, Idle}
use Rattle.run.specs.declared.answer.Slot.{Slot}
use Rattle.run.specs.Answer.{member}
use Rattle.text.specs.Ascii.{ascii}
use Rattle.text.specs.Decimal.{decimal_of}
use Rattle.lines.specs.Parts.{labelled}

abbrev pub choice_text : Choice → List ℕ
choice_text (Given j) = decimal_of j
choice_text Idle = ascii "-"

-- the members below n, ascending, each after the label
unfoldable pub set_text : List ℕ → ℕ → ℕ → List ℕ
set_text label set zero = []
set_text label set (suc n) = set_text label set n ++ cond (member set n) (labelled label n) []

unfoldable pub slot_text : ℕ → Slot → List ℕ
slot_text number s =
    decimal_of number
    ++ (ascii " "
    ++ (choice_text s.choice ++ (set_text (ascii " t") s.tags count_most ++ (set_text (ascii " s") s.shorts count_most ++ ascii "\n"))))
