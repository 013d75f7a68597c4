-- How a number is printed: its digits counted by its logarithm, and filled in from the last.
use mathlib.Core.Path.{◌≡◌, sym, ◌∙◌, ap}
use mathlib.Core.List.{List, [], ◌∷◌, ◌++◌, append_assoc}
use Prim.Native.Nat.{ℕ, zero, suc, ◌+◌, ◌*◌, ◌-◌, ◌/◌, ◌%◌, ◌^◌, ◌≤◌, ◌<◌}
use native.Mathlib.Nat.{pow-suc, one-le-pow}
use native.Mathlib.Numerals.{add-one}
use native.Mathlib.Decide.{dec_lt}
use native.Mathlib.Omega.{arith}
use lib.ListN.{length, set, drop}
use Rattle.std.proofs.lemmas.List.{drop-set}
use Rattle.std.specs.Prelude.{Option, None, Some, IfNone, IfSome, MatchOption}
use Rattle.text.specs.Decimal.{digits_of, count_in, decimal_of}
use Rattle.text.proofs.DecimalLaws.{count_one, count_more, decimal_count}

-- the digits with the last one apart
digits_last : (n x : ℕ) → digits_of (n + 1) x ≡ digits_of n (x / 10) ++ ((48 + x % 10) ∷ [])
unfolding digits_of
digits_last n x = ap (λ (k : ℕ). digits_of k x) (add-one n)

-- the last digit that is left to be filled in, before those that are
pub digit_filled :
    (slice : List ℕ) (at x : ℕ) → 0 < at → at ≤ length slice
    → digits_of (at - 1) (x / 10) ++ drop (at - 1) (set slice (at - 1) (48 + x % 10)) ≡ digits_of at x ++ drop at slice
digit_filled slice at x some room =
    let n = at - 1 in
    let all : n + 1 ≡ at = omega arith in
    ap (digits_of n (x / 10) ++◌) (drop-set slice n (48 + x % 10) (omega arith))
    ∙ sym (append_assoc (digits_of n (x / 10)) ((48 + x % 10) ∷ []) (drop (n + 1) slice))
    ∙ ap (◌++ drop (n + 1) slice) (sym (digits_last n x))
    ∙ ap (λ (k : ℕ). digits_of k x ++ drop k slice) all

count_most_lem : (n x : ℕ) → count_in n x ≤ n + 1
unfolding count_in
count_most_lem zero x = omega arith
count_most_lem (suc n) x =
    elim (dec_lt x 10) [
      | yes h ↦ omega (arith, count_one (suc n) x h)
      | no h ↦ omega (arith, count_more n x (omega arith), count_most_lem n (x / 10))
    ]

-- as many digits as there are
pub decimal_whole : (x n : ℕ) → n ≡ length (decimal_of x) → digits_of n x ≡ decimal_of x
unfolding decimal_of
decimal_whole x n all = ap (λ (k : ℕ). digits_of k x) (all ∙ decimal_count x)

pub decimal_most : (x : ℕ) → length (decimal_of x) ≤ 20
decimal_most x = omega (arith, decimal_count x, count_most_lem 19 x)

-- a number from the k-th power of ten on, and below the next, has k + 1 digits
count_by_power : (k n x : ℕ) → k ≤ n → 10 ^ k ≤ x → x < 10 * 10 ^ k → count_in n x ≡ k + 1
count_by_power zero n x room low high = omega (arith, count_one n x (omega arith))
count_by_power (suc k) zero x room low high = absurd (omega arith)
count_by_power (suc k) (suc n) x room low high =
    let p : 10 ^ suc k ≡ 10 ^ k * 10 = pow-suc 10 k in
    let some : 1 ≤ 10 ^ k = one-le-pow k 10 (omega arith) in
    omega (arith, count_more n x (omega arith), count_by_power k n (x / 10) (omega arith) (omega arith) (omega arith))

length_by_power : (k x : ℕ) → k < 20 → 10 ^ k ≤ x → x < 10 * 10 ^ k → length (decimal_of x) ≡ k + 1
length_by_power k x room low high = decimal_count x ∙ count_by_power k 19 x (omega arith) low high

-- what the logarithm says of the length, for 0 too
pub counted :
    (x : ℕ) (k : Option ℕ) {r : ℕ} → IfNone k (x ≡ 0) → IfSome k (λ k. 10 ^ k ≤ x) → IfSome k (λ k. x < 10 * 10 ^ k)
    → IfSome k (λ k. k < 20) → MatchOption k (r ≡ 1) (λ k. r ≡ k + 1) → r ≡ length (decimal_of x)
counted x None none low high room r = r ∙ sym (decimal_count x ∙ count_one 19 x (omega arith))
counted x (Some k) some low high room r = r ∙ sym (length_by_power k x room low high)
