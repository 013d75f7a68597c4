-- The paper's number and values of what admission answers.
use Rattle.std.specs.Prelude.{ℕ, Bool, ◌||◌, cond, [], ◌∷◌, eqb, get_or, Result, Ok}
use Rattle.job.specs.declared.refusal.Refusal.{Refusal}
use Rattle.job.specs.Told.{Told, told_answer}
use Rattle.admission.specs.declared.answer.Admitted.{Admitted}

abbrev pub Admission : Type 0
Admission = Result Admitted Refusal

abbrev pub admitted_of : ℕ → ℕ → Admission
admitted_of h d = Ok (record { cycle = h; load = d })

-- 'Admitted means load ≤ H; cycle and load are both returned.'
abbrev pub told_admission : Admission → Told
told_admission a = told_answer (λ (x : Admitted). x.cycle ∷ x.load ∷ []) a

-- 'Cycle and load are 0 in each refusal but 9, which returns both.'
abbrev pub returns_both : Told → Bool
returns_both t = eqb t.number 0 || eqb t.number 9

unfoldable pub cycle_returned : Told → ℕ
cycle_returned t = cond (returns_both t) (get_or t.values 0 0) 0

unfoldable pub load_returned : Told → ℕ
load_returned t = cond (returns_both t) (get_or t.values 1 0) 0
