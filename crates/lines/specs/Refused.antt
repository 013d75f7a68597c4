-- 'A refusal prints only "refused N", with " job J" for 3 to 6 or " at P" for 13.'
use Rattle.std.specs.Prelude.{ℕ, ◌&&◌, cond, List, [], ◌++◌, leb, eqb, get_or}
use Rattle.job.specs.Told.{Told}
use Rattle.text.specs.Ascii.{ascii}
use Rattle.lines.specs.Parts.{labelled}

abbrev pub value_text : Told → List ℕ
value_text t =
    cond (leb 3 t.number && leb t.number 6) (labelled (ascii " job ") (get_or t.values 0 0))
    (cond (eqb t.number 13) (labelled (ascii " at ") (get_or t.values 0 0)) [])

unfoldable pub refusal_text : Told → List ℕ
refusal_text t = labelled (ascii "refused ") t.number ++ (value_text t ++ ascii "\n")
