-- 'Admission is handed a list and a model; it tests 15 for the model, 1, 2, then 3 to 6, 7, 8, 9.'
use Rattle.std.specs.Prelude.{ℕ, cond, [], ◌∷◌, ltb, eqb}
use Rattle.job.specs.declared.list.JobList.{JobList}
use Rattle.job.specs.Limit.{original, cycle_most}
use Rattle.job.specs.Told.{Told, row}
use Rattle.job.specs.Check.{otherwise, list_told}
use Rattle.admission.specs.Cycle.{cycle_of}
use Rattle.admission.specs.Load.{load_of}

-- '9: load above cycle', else 'admitted means load ≤ H'
unfoldable pub judged_told : ℕ → ℕ → Told
judged_told h d = cond (ltb h d) (row 9 (h ∷ d ∷ [])) (row 0 (h ∷ d ∷ []))

unfoldable pub verdict_told : JobList → ℕ → Told
verdict_told l model =
    cond (ltb original model) (row 15 [])
    (otherwise (list_told l)
    (cond (eqb model original) (row 7 [])
    (cond (ltb cycle_most (cycle_of l)) (row 8 [])
    (judged_told (cycle_of l) (load_of l (cycle_of l))))))
