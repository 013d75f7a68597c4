-- Small numbers read as signed ones: no difference or product of them wraps.
use mathlib.Core.Path.{◌≡◌, refl, sym, ap, ◌∙◌}
use mathlib.Core.Bool.{Bool, true, false, cond}
use Prim.Native.Nat.{ℕ, zero, suc, ◌+◌, ◌-◌, ◌*◌, ◌≤◌, ◌<◌}
use native.Mathlib.Nat.{le_refl, add-zero, zero-add}
use native.Mathlib.Omega.{arith}
use lib.Dec.{leb, ltb}
use lib.IntN.{ℤ, pos, negsuc, neg_ℤ, nat_abs, ◌-ℤ◌, ◌*ℤ◌}
use lib.Signed.{mag, le_z}
use borrow.Author.Tests.{ltb-true, ltb-false, leb-true, leb-false, le-leb, lt-leb}
use mir.Syntax.{w64}
use mir.Val.{SFits, to_z}
use mir.Facts.{to_z_pos}

mag_high : (z : ℤ) → mag z ≤ nat_abs z
mag_high (pos n) = le_refl n
mag_high (negsuc n) = omega arith

abs_cases : (t : Bool) (a n : ℕ) → nat_abs (cond t (negsuc (suc n - suc a)) (pos (a - suc n))) ≤ a + suc n
abs_cases true a n = omega arith
abs_cases false a n = omega arith

pub abs_sub : (a b : ℕ) → nat_abs (pos a -ℤ pos b) ≤ a + b
abs_sub a zero = omega arith
abs_sub a (suc n) = abs_cases (ltb a (suc n)) a n

abs_neg : (n : ℕ) → nat_abs (neg_ℤ (pos n)) ≤ n
abs_neg zero = le_refl 0
abs_neg (suc n) = le_refl (suc n)

pub abs_mul : (z : ℤ) (n : ℕ) → nat_abs (z *ℤ pos n) ≤ nat_abs z * n
abs_mul (pos a) n = le_refl (a * n)
abs_mul (negsuc a) n = abs_neg (suc a * n)

pub abs_fits : {z : ℤ} → nat_abs z < 9223372036854775808 → SFits w64 z
abs_fits {z} h = record { sfits = omega (arith, mag_high z) }

pub small_pos : {n : ℕ} → n ≤ 4294967295 → to_z w64 n ≡ pos n
small_pos h = to_z_pos w64 (omega arith)

-- a signed difference against a number, without signs
pub difference_most : (a b c : ℕ) → le_z (pos a -ℤ pos b) (pos c) ≡ leb a (b + c)
difference_most a zero c = ap (λ (x : ℕ). leb x c) (add-zero a) ∙ ap (leb a) (sym (zero-add c))
difference_most a (suc n) c = go (ltb a (suc n)) refl
  where
    same : suc n ≤ a → (t : Bool) → leb (a - suc n) c ≡ t → leb (a - suc n) c ≡ leb a (suc n + c)
    same h true e = e ∙ sym (le-leb a (suc n + c) (let k = leb-true (a - suc n) c e in omega arith))
    same h false e = e ∙ sym (lt-leb a (suc n + c) (let k = leb-false (a - suc n) c e in omega arith))

    go : (t : Bool) → ltb a (suc n) ≡ t → le_z (cond t (negsuc (suc n - suc a)) (pos (a - suc n))) (pos c) ≡ leb a (suc n + c)
    go true e = sym (le-leb a (suc n + c) (let k = ltb-true a (suc n) e in omega arith))
    go false e = same (ltb-false a (suc n) e) (leb (a - suc n) c) refl
