-- The greatest common divisor: what one step of Euclid's rule keeps, that there is one only, and that Euclid's rule finds it.
use mathlib.Core.Path.{◌≡◌, refl, ap}
use mathlib.Core.Bool.{Bool, true, false}
use Prim.Native.Nat.{ℕ, zero, suc, ◌+◌, ◌*◌, ◌/◌, ◌%◌, ◌≤◌, ◌∣◌}
use native.Mathlib.Nat.{mod-lt, div-add-mod, dvd_refl, dvd-zero, dvd_antisymm, dvd-mod_iff, dvd-add_iff_right, dvd-mul_right_of_dvd}
use native.Mathlib.Omega.{arith}
use lib.Dec.{eqb}
use borrow.Author.Tests.{eqb-true, eqb-false}
use Rattle.admission.specs.Divisor.{GreatestDivisor, gcd_in, gcd}
use Rattle.admission.specs.Meaning.{DivisorGreatest}

pub divisor_greatest : DivisorGreatest
divisor_greatest a b r d = d

-- two numbers have one greatest common divisor
pub divisor_unique : (a b d e : ℕ) → GreatestDivisor a b d → GreatestDivisor a b e → d ≡ e
divisor_unique a b d e one other =
    dvd_antisymm (other.greatest d one.left one.right) (one.greatest e other.left other.right)

-- Euclid's rule
pub divisor_ends : (a : ℕ) → GreatestDivisor a 0 a
divisor_ends a = record { left = dvd_refl a; right = dvd-zero a; greatest = λ x left right. left }

pub divisor_step : {a b d : ℕ} → GreatestDivisor b (a % b) d → GreatestDivisor a b d
divisor_step {a} {b} {d} s =
    record {
      left = (dvd-mod_iff d s.left).0 s.right;
      right = s.left;
      greatest = λ x left right. s.greatest x right ((dvd-mod_iff x right).1 left);
    }

-- what holds where b is 0, and is kept by a step, holds of what Euclid's rule finds
module _
    (P : ℕ → ℕ → ℕ → Type 0)
    (ends : (a : ℕ) → P a 0 a)
    (step : (a b d : ℕ) → P b (a % b) d → P a b d)
  where
    in_steps : (n a b : ℕ) → b ≤ n → P a b (gcd_in n a b)
    unfolding gcd_in
    in_steps zero a b h = let none : b ≡ 0 = omega arith in rw none (ends a)
    in_steps (suc n) a b h = go (eqb b 0) refl (λ less. in_steps n b (a % b) less)
      where
        go :
            (t : Bool) → eqb b 0 ≡ t → (a % b ≤ n → P b (a % b) (gcd_in n b (a % b)))
            → P a b (elim t [ true ↦ a | false ↦ gcd_in n b (a % b) ])
        go true e more = let none : b ≡ 0 = eqb-true b 0 e in rw none (ends a)
        go false e more =
            let some = eqb-false b 0 e in
            step a b (gcd_in n b (a % b)) (more (omega (arith, mod-lt a {m = b} (omega arith))))

    euclid : (a b : ℕ) → P a b (gcd a b)
    unfolding gcd
    euclid a b = in_steps b a b (omega arith)

pub euclid_greatest : (a b : ℕ) → GreatestDivisor a b (gcd a b)
euclid_greatest = euclid GreatestDivisor divisor_ends (λ a b d s. divisor_step s)

-- what divides the multiples of a and of b by x divides that of their greatest common divisor
pub euclid_scaled : (a b x e : ℕ) → e ∣ x * a → e ∣ x * b → e ∣ x * gcd a b
euclid_scaled =
    euclid (λ a b d. (x e : ℕ) → e ∣ x * a → e ∣ x * b → e ∣ x * d) (λ a x e left right. left)
    (λ a b d s x e left right. s x e right (rest a b x e left right))
  where
    rest : (a b x e : ℕ) → e ∣ x * a → e ∣ x * b → e ∣ x * (a % b)
    rest a b x e left right =
        let parts : x * a ≡ x * b * (a / b) + x * (a % b) = omega (arith, ap (x *◌) (div-add-mod a b)) in
        (dvd-add_iff_right e (dvd-mul_right_of_dvd e right (a / b))).1 (rw parts at left)
