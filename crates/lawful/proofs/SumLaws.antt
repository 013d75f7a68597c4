-- The sum of f over the numbers below n, bounded term by term.
use mathlib.Core.Path.{◌≡◌, refl, ap₂}
use Prim.Native.Nat.{ℕ, zero, suc, ◌+◌, ◌*◌, ◌≤◌, ◌<◌}
use native.Mathlib.Numerals.{add-one}
use native.Mathlib.Decide.{ℕ_discrete}
use native.Mathlib.Omega.{arith}
use borrow.Author.Count.{below_none, below_more}
use Rattle.rules.specs.Meaning.{sum_upto}

module _ {f g : ℕ → ℕ} where
  pub sum_same : (n : ℕ) → ((i : ℕ) → i < n → f i ≡ g i) → sum_upto f n ≡ sum_upto g n
  unfolding sum_upto
  sum_same zero same = refl
  sum_same (suc n) same = ap₂ ◌+◌ (sum_same n (λ i h. same i (omega arith))) (same n (omega arith))

  pub sum_most : (n : ℕ) → ((i : ℕ) → i < n → f i ≤ g i) → sum_upto f n ≤ sum_upto g n
  unfolding sum_upto
  sum_most zero most = omega arith
  sum_most (suc n) most = omega (arith, sum_most n (λ i h. most i (omega arith)), most n (omega arith))

  -- one term that is less makes the sum less
  pub sum_less :
      (n j : ℕ) → j < n → ((i : ℕ) → i < n → f i ≤ g i) → f j + 1 ≤ g j → sum_upto f n + 1 ≤ sum_upto g n
  unfolding sum_upto
  sum_less zero j h most less = absurd (omega arith)
  sum_less (suc n) j h most less =
      grind (arith, sum_most n (λ i l. most i (omega arith)), most n (omega arith), (λ (below : j < n). sum_less n j below (λ i l. most i (omega arith)) less))

module _ (f : ℕ → ℕ) where
  pub sum_bound :
      (g : ℕ → ℕ) (a b n : ℕ) → ((i : ℕ) → i < n → a * f i ≤ g i * b) → a * sum_upto f n ≤ sum_upto g n * b
  unfolding sum_upto
  sum_bound g a b zero bound = omega arith
  sum_bound g a b (suc n) bound = omega (arith, sum_bound g a b n (λ i h. bound i (omega arith)), bound n (omega arith))

  -- a sum of nothing has no term
  pub sum_none : (n : ℕ) → sum_upto f n ≡ 0 → (i : ℕ) → i < n → f i ≡ 0
  unfolding sum_upto
  sum_none zero none = below_none _
  sum_none (suc n) none =
      rw (← add-one n) (below_more (λ (i : ℕ). f i ≡ 0) n (sum_none n (omega arith)) (omega arith))

  pub sum_zero : (n : ℕ) → ((i : ℕ) → i < n → f i ≡ 0) → sum_upto f n ≡ 0
  unfolding sum_upto
  sum_zero zero none = refl
  sum_zero (suc n) none = omega (arith, sum_zero n (λ i h. none i (omega arith)), none n (omega arith))
