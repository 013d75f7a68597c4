-- The greatest common divisor: as what it is, and by Euclid's rule.
use Rattle.std.specs.Prelude.{ℕ, zero, suc, ◌%◌, true, false, eqb}
use Rattle.std.specs.Int.{◌∣◌}

-- a common divisor that every common divisor divides
pub record GreatestDivisor (a b d : ℕ) : Type 0 where
  pub left : d ∣ a
  pub right : d ∣ b
  pub greatest : (x : ℕ) → x ∣ a → x ∣ b → x ∣ d

-- Euclid's rule, in at most n steps
unfoldable pub gcd_in : ℕ → ℕ → ℕ → ℕ
gcd_in zero a b = a
gcd_in (suc n) a b = elim (eqb b 0) [ true ↦ a | false ↦ gcd_in n b (a % b) ]

-- b falls with each step, so b steps are enough
unfoldable pub gcd : ℕ → ℕ → ℕ
gcd a b = gcd_in b a b
