-- `told` has an inverse, so an answer is determined by the paper's number and values; how two answers are told apart; and no refusal has the number 0.
use mathlib.Core.Path.{◌≡◌, refl, sym, ◌∙◌, ap}
use mathlib.Core.Bool.{false, cond}
use mathlib.Core.List.{List, [], ◌∷◌}
use Prim.Native.Nat.{ℕ}
use native.Mathlib.Omega.{arith}
use lib.Dec.{eqb}
use lib.ListN.{length, get_or}
use borrow.Author.Tests.{eqb-false}
use Rattle.job.specs.declared.refusal.Refusal.{Refusal}
use Rattle.job.specs.declared.refusal.Refusal.TheVariants.{NoJobs, TooManyJobs, Period, Service, Window, Share, OriginalModel, CycleTooLong, Overload, StateOutOfRange, ClockAtLimit, BufferTooShort, SheetForm, JobBytes, OrderOrModel, SlotCount, SheetTooLong}
use Rattle.std.specs.Prelude.{Ok, Err}
use Rattle.job.specs.Told.{Told, row, told}
use Rattle.job.specs.Meaning.{RefusalOneToOne, AnswerOneToOne, CheckedOneToOne, RefusedOneToOne}

-- two answers of different numbers, or of different numbers of values, are not equal
pub apart : {n m : ℕ} {a b : List ℕ} → row n a ≡ row m b → eqb n m ≡ false → ⊥
apart {n} {m} e f = eqb-false n m f (ap (λ (t : Told). t.number) e)

pub valued : {n m x : ℕ} → row n (x ∷ []) ≡ row m [] → ⊥
valued e = let lengths : ◌≡◌ {A = ℕ} 1 0 = ap (λ (t : Told). length t.values) e in omega arith

-- whatever has an inverse is one-to-one
pub one_to_one {ℓ κ} : {A : Type ℓ} {B : Type κ} (f : A → B) (g : B → A) → ((a : A) → g (f a) ≡ a) → (a b : A) → f a ≡ f b → a ≡ b
one_to_one f g inverse a b e = sym (inverse a) ∙ ap g e ∙ inverse b

pub row_back : Told → Refusal
row_back t =
    let n = t.number in
    let x = get_or t.values 0 0 in
    cond (eqb n 1) NoJobs
    (cond (eqb n 2) TooManyJobs
    (cond (eqb n 3) (Period x)
    (cond (eqb n 4) (Service x)
    (cond (eqb n 5) (Window x)
    (cond (eqb n 6) (Share x)
    (cond (eqb n 7) OriginalModel
    (cond (eqb n 8) CycleTooLong
    (cond (eqb n 9) (Overload x (get_or t.values 1 0))
    (cond (eqb n 10) StateOutOfRange
    (cond (eqb n 11) ClockAtLimit
    (cond (eqb n 12) BufferTooShort
    (cond (eqb n 13) (SheetForm x)
    (cond (eqb n 14) JobBytes
    (cond (eqb n 15) OrderOrModel
    (cond (eqb n 16) SlotCount SheetTooLong)))))))))))))))

-- by the rows: the inverse gives the refusal back, and its number is not 0
row_by_row : (r : Refusal) → (row_back (told r) ≡ r) × (eqb (told r).number 0 ≡ false)
unfolding row_back
row_by_row NoJobs = (refl, refl)
row_by_row TooManyJobs = (refl, refl)
row_by_row (Period j) = (refl, refl)
row_by_row (Service j) = (refl, refl)
row_by_row (Window j) = (refl, refl)
row_by_row (Share j) = (refl, refl)
row_by_row OriginalModel = (refl, refl)
row_by_row CycleTooLong = (refl, refl)
row_by_row (Overload h l) = (refl, refl)
row_by_row StateOutOfRange = (refl, refl)
row_by_row ClockAtLimit = (refl, refl)
row_by_row BufferTooShort = (refl, refl)
row_by_row (SheetForm p) = (refl, refl)
row_by_row JobBytes = (refl, refl)
row_by_row OrderOrModel = (refl, refl)
row_by_row SlotCount = (refl, refl)
row_by_row SheetTooLong = (refl, refl)

pub row_back_lem : (r : Refusal) → row_back (told r) ≡ r
row_back_lem r = (row_by_row r).0

pub told_refuses : (r : Refusal) → eqb (told r).number 0 ≡ false
told_refuses r = (row_by_row r).1

pub refusal_one_to_one : RefusalOneToOne
refusal_one_to_one = one_to_one told row_back row_back_lem

-- no refusal is told as what passed
pub not_passed : (r : Refusal) {values : List ℕ} → told r ≡ row 0 values → ⊥
not_passed r e = eqb-false (told r).number 0 (told_refuses r) (ap (λ (t : Told). t.number) e)

pub answer_one_to_one : AnswerOneToOne
answer_one_to_one A values apart_values (Ok x) (Ok y) e = ap Ok (apart_values x y (ap (λ (t : Told). t.values) e))
answer_one_to_one A values apart_values (Ok x) (Err r) e = absurd (not_passed r (sym e))
answer_one_to_one A values apart_values (Err r) (Ok y) e = absurd (not_passed r e)
answer_one_to_one A values apart_values (Err r) (Err s) e = ap Err (refusal_one_to_one r s e)

-- .. of a check that hands nothing back
pub checked_one_to_one : CheckedOneToOne
checked_one_to_one = answer_one_to_one (Unit {0}) (λ _. []) (λ _ _ _. refl)

-- .. of any two answers, what is refused
pub refused_one_to_one : RefusedOneToOne
refused_one_to_one A B (Ok x) (Ok y) e r = (λ f. cc, λ f. cc)
refused_one_to_one A B (Ok x) (Err s) e r = absurd (not_passed s (sym e))
refused_one_to_one A B (Err s) (Ok y) e r = absurd (not_passed s e)
refused_one_to_one A B (Err s) (Err t) e r =
    let same : s ≡ t = refusal_one_to_one s t e in (
      λ f. let is : s ≡ r = cc in ap Err (sym same ∙ is),
      λ f. let is : t ≡ r = cc in ap Err (same ∙ is),
    )
