-- The admission line and the totals.
use Rattle.std.specs.Prelude.{ℕ, cond, List, ◌++◌, eqb}
use Rattle.job.specs.Told.{Told}
use Rattle.admission.specs.Answer.{cycle_returned, load_returned}
use Rattle.run.specs.declared.state.Totals.{Totals}
use Rattle.text.specs.Ascii.{ascii}
use Rattle.lines.specs.Parts.{labelled}

-- '"cycle 12 load 7 admitted", the last word replaced by "over", "cycle too long" or "not judged"'
abbrev pub verdict_word : ℕ → List ℕ
verdict_word number =
    cond (eqb number 0) (ascii " admitted\n")
    (cond (eqb number 8) (ascii " cycle too long\n")
    (cond (eqb number 9) (ascii " over\n") (ascii " not judged\n")))

-- 'the numbers are those returned, so 0 and 0 in the last two'
unfoldable pub admission_text : Told → List ℕ
admission_text t =
    labelled (ascii "cycle ") (cycle_returned t) ++ (labelled (ascii " load ") (load_returned t) ++ verdict_word t.number)

-- 'given 4 idle 2 tagged 0 short 0'
unfoldable pub totals_text : Totals → List ℕ
totals_text t =
    labelled (ascii "given ") t.given
    ++ (labelled (ascii " idle ") t.idle
    ++ (labelled (ascii " tagged ") t.tags ++ (labelled (ascii " short ") t.shorts ++ ascii "\n")))
