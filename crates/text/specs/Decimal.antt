-- A number in decimal: no leading zero, and 0 as one digit.
use Rattle.std.specs.Prelude.{ℕ, zero, suc, ◌+◌, ◌/◌, ◌%◌, true, false, List, [], ◌∷◌, ◌++◌, eqb}

-- the last n digits of x, as ASCII bytes
unfoldable pub digits_of : ℕ → ℕ → List ℕ
digits_of zero x = []
digits_of (suc n) x = digits_of n (x / 10) ++ ((48 + x % 10) ∷ [])

-- how many digits x has, counted up to n + 1 of them
unfoldable pub count_in : ℕ → ℕ → ℕ
count_in zero x = 1
count_in (suc n) x = elim (eqb (x / 10) 0) [ true ↦ 1 | false ↦ count_in n (x / 10) + 1 ]

-- 20 digits hold every number of 64 bits
unfoldable pub decimal_of : ℕ → List ℕ
decimal_of x = digits_of (count_in 19 x) x
