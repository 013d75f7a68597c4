-- What an answer returns, by its variant; and an answer is determined by the paper's number and values.
use mathlib.Core.Path.{◌≡◌}
use mathlib.Core.Bool.{false, cond}
use mathlib.Core.List.{List, [], ◌∷◌}
use Prim.Native.Nat.{ℕ}
use native.Mathlib.Omega.{arith}
use lib.ListN.{get_or}
use Rattle.std.proofs.lemmas.Bool.Decides.{nat_tests}
use Rattle.job.specs.declared.refusal.Refusal.{Refusal}
use Rattle.job.specs.declared.refusal.Refusal.TheVariants.{Overload}
use Rattle.job.specs.Told.{told}
use Rattle.job.proofs.ToldLaws.{answer_one_to_one}
use Rattle.job.proofs.Meaning.{answer_numbered}
use Rattle.admission.specs.declared.answer.Admitted.{Admitted}
use Rattle.admission.specs.Answer.{told_admission, returns_both, cycle_returned, load_returned}
use Rattle.admission.specs.Meaning.{AdmissionOneToOne, AdmissionNumbered, Returned, CycleReturned, LoadReturned}

-- neither cycle nor load is returned of a refusal that is not row 9
pub others_return_none : (r : Refusal) → ((h d : ℕ) → r ≡ Overload h d → ⊥) → returns_both (told r) ≡ false
others_return_none r k = grind (arith, nat_tests)

-- one of the two values, 0 where they are not returned
value_returned :
    (i : ℕ)
    → Returned (λ a r. r ≡ cond (returns_both (told_admission a)) (get_or (told_admission a).values i 0) 0)
    (λ h d. get_or (h ∷ d ∷ []) i 0)
value_returned i =
    record {
      admitted = λ h d r e. e;
      overload = λ h d r e. e;
      otherwise = λ x r other e. rw (others_return_none x other) at e;
    }

pub cycle_returned_lem : CycleReturned
unfolding cycle_returned
cycle_returned_lem = value_returned 0

pub load_returned_lem : LoadReturned
unfolding load_returned
load_returned_lem = value_returned 1

pub admission_numbered : AdmissionNumbered
admission_numbered = answer_numbered Admitted (λ (x : Admitted). x.cycle ∷ x.load ∷ [])

pub admission_one_to_one : AdmissionOneToOne
admission_one_to_one = answer_one_to_one Admitted (λ (x : Admitted). x.cycle ∷ x.load ∷ []) same
  where
    same : (x y : Admitted) → ◌≡◌ {A = List ℕ} (x.cycle ∷ x.load ∷ []) (y.cycle ∷ y.load ∷ []) → x ≡ y
    same x y e = λ dim. record { cycle = get_or (e dim) 0 0; load = get_or (e dim) 1 0 }
