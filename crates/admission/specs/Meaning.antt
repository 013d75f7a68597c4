-- What a reader may conclude from the promises of admission, of whatever result they allow. Each statement is proved in proofs/, under its
-- name.
use Rattle.std.specs.Prelude.{◌≡◌, ◌↔◌, [], ◌∷◌, ℕ, ◌≤◌, ◌<◌, Err}
use Rattle.job.specs.declared.list.JobList.{JobList}
use Rattle.job.specs.declared.refusal.Refusal.{Refusal}
use Rattle.job.specs.declared.refusal.Refusal.TheVariants.{Overload}
use Rattle.job.specs.Limit.{count_most, relaxed, original, cycle_most}
use Rattle.job.specs.Told.{Told, row}
use Rattle.job.specs.Sound.{SoundList, LowestFault}
use Rattle.job.specs.Promise.{AnswerNumberPromise}
use Rattle.admission.specs.Divisor.{GreatestDivisor}
use Rattle.admission.specs.Judged.{LeastCommonMultiple, Judged}
use Rattle.admission.specs.Answer.{Admission, admitted_of, told_admission}
use Rattle.admission.specs.Promise.{CyclePromise, LoadPromise, DivisorPromise, VerdictPromise}

-- an answer is determined by the paper's number and values
abbrev pub AdmissionOneToOne : Type 0
AdmissionOneToOne = (a b : Admission) → told_admission a ≡ told_admission b → a ≡ b

-- `job::number_of`: the row's number, 0 for none
abbrev pub AdmissionNumbered : Type 0
AdmissionNumbered = (a : Admission) (r : ℕ) → AnswerNumberPromise a r → r ≡ (told_admission a).number

-- 'cycle and load are both returned'; they 'are 0 in each refusal but 9, which returns both'
pub record Returned (promise : Admission → ℕ → Type 0) (part : ℕ → ℕ → ℕ) : Type 0 where
  pub admitted : (h d r : ℕ) → promise (admitted_of h d) r → r ≡ part h d
  pub overload : (h d r : ℕ) → promise (Err (Overload h d)) r → r ≡ part h d
  pub otherwise : (x : Refusal) (r : ℕ) → ((h d : ℕ) → x ≡ Overload h d → ⊥) → promise (Err x) r → r ≡ 0

abbrev pub CycleReturned : Type 0
CycleReturned = Returned CyclePromise (λ h d. h)

abbrev pub LoadReturned : Type 0
LoadReturned = Returned LoadPromise (λ h d. d)

-- `common_divisor`
abbrev pub DivisorGreatest : Type 0
DivisorGreatest = (a b r : ℕ) → DivisorPromise a b r → GreatestDivisor a b r

-- `verdict`: what is told of list l and a model
pub record VerdictRows (l : JobList) (model : ℕ) (t : Told) : Type 0 where
  -- '15: order or model number not 0 or 1', tested first
  pub row_fifteen : (t ≡ row 15 []) ↔ (original < model)
  -- rows 1 to 6, as in the check of a list
  pub row_one : (t ≡ row 1 []) ↔ ((model ≤ original) × (l.count ≡ 0))
  pub row_two : (t ≡ row 2 []) ↔ ((model ≤ original) × (count_most < l.count))
  pub job_rows : (n i : ℕ) → (t ≡ row n (i ∷ [])) ↔ ((model ≤ original) × LowestFault l n i)
  -- '7: original model'
  pub row_seven : (t ≡ row 7 []) ↔ ((model ≡ original) × SoundList l)
  -- '8: cycle over the limit', however large
  pub row_eight :
      (t ≡ row 8 []) ↔ ((model ≡ relaxed) × SoundList l × (h : ℕ) × LeastCommonMultiple l h × (cycle_most < h))
  -- '9: load above cycle'
  pub row_nine : (h d : ℕ) → (t ≡ row 9 (h ∷ d ∷ [])) ↔ (Judged l model h d × (h < d))
  -- 'Admitted means load ≤ H; cycle and load are both returned.'
  pub admitted : (h d : ℕ) → (t ≡ row 0 (h ∷ d ∷ [])) ↔ (Judged l model h d × (d ≤ h))

abbrev pub Verdicts : Type 0
Verdicts = (l : JobList) (model : ℕ) (r : Admission) → VerdictPromise l model r → VerdictRows l model (told_admission r)
