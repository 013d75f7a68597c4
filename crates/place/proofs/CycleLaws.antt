-- Cycles of m numbers, one after the other: how far the open one has come, the whole ones before it, and one more number.
use mathlib.Core.Path.{◌≡◌, sym, ap, ◌∙◌}
use mathlib.Core.Bool.{cond}
use Prim.Native.Nat.{ℕ, suc, ◌+◌, ◌*◌, ◌/◌, ◌%◌, ◌≤◌, ◌<◌}
use native.Mathlib.Nat.{suc-mod, mod_self, mod-lt, mod-eq_of_lt, div-add-mod'}
use native.Mathlib.Numerals.{add-one}
use native.Mathlib.Decide.{dec_lt}
use native.Mathlib.Omega.{arith}
use lib.Arith.{digits_div}
use lib.Dec.{eqb}
use borrow.Author.Tests.{eq-eqb, ne_eqb}

module _ (m n : ℕ) where
  pub cycle_goes_on : n % m + 1 < m → suc n % m ≡ n % m + 1
  cycle_goes_on h =
      let inside : suc (n % m) < m = omega arith in
      let next : suc (n % m) % m ≡ suc (n % m) = mod-eq_of_lt inside in
      omega (arith, suc-mod n m)

  pub cycle_ends : n % m + 1 ≡ m → suc n % m ≡ 0
  cycle_ends h =
      let whole : suc (n % m) ≡ m = omega arith in
      suc-mod n m ∙ ap (◌% m) whole ∙ mod_self m

  module _ (some : 1 ≤ m) where
    -- the next number is a multiple of m, told by how far the cycle has come
    pub ends_at_lem : eqb (n % m + 1) m ≡ eqb ((n + 1) % m) 0
    ends_at_lem = rw (add-one n) (go (dec_lt (n % m + 1) m))
      where
        go : Dec (n % m + 1 < m) → eqb (n % m + 1) m ≡ eqb (suc n % m) 0
        go (yes h) = ne_eqb (n % m + 1) m (omega arith) ∙ sym (ne_eqb (suc n % m) 0 (omega (arith, cycle_goes_on h)))
        go (no h) =
            let last : n % m + 1 ≡ m = omega (arith, mod-lt n some) in
            eq-eqb (n % m + 1) m last ∙ sym (eq-eqb (suc n % m) 0 (cycle_ends last))

    -- and then one cycle more is whole
    pub whole_next : (n + 1) / m ≡ cond (eqb ((n + 1) % m) 0) (n / m + 1) (n / m)
    whole_next = rw (← ends_at_lem) (go (dec_lt (n % m + 1) m))
      where
        go : Dec (n % m + 1 < m) → (n + 1) / m ≡ cond (eqb (n % m + 1) m) (n / m + 1) (n / m)
        go (yes h) =
            let parts : n + 1 ≡ n / m * m + (n % m + 1) = omega (arith, div-add-mod' n m) in
            rw (ne_eqb (n % m + 1) m (omega arith)) (ap (◌/ m) parts ∙ digits_div (n / m) h)
        go (no h) =
            let last : n % m + 1 ≡ m = omega (arith, mod-lt n some) in
            let parts : n + 1 ≡ (n / m + 1) * m + 0 = omega (arith, div-add-mod' n m) in
            rw (eq-eqb (n % m + 1) m last) (ap (◌/ m) parts ∙ digits_div (n / m + 1) some)
