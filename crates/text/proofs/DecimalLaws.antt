-- What a number's decimal is: one digit, or the decimal of what stands before the last digit and that digit; how long it is; and that it says its number.
use mathlib.Core.Path.{◌≡◌, refl, sym, ◌∙◌, ap, subst}
use mathlib.Core.List.{List, [], ◌∷◌, ◌++◌, head-eq_of_cons-eq, tail-eq_of_cons-eq}
use Prim.Native.Nat.{ℕ, zero, suc, ◌+◌, ◌-◌, ◌*◌, ◌^◌, ◌/◌, ◌%◌, ◌≤◌, ◌<◌}
use native.Mathlib.Nat.{pow-suc, mod-eq_of_lt}
use native.Mathlib.Numerals.{add-one}
use native.Mathlib.Decide.{dec_lt}
use native.Mathlib.Omega.{arith}
use lib.ListN.{length, get_or, length-append, get_or-append}
use borrow.Author.Tests.{eq-eqb, ne_eqb}
use Rattle.text.specs.Decimal.{digits_of, count_in, decimal_of}

-- every number is a digit, or a positive number times ten plus a digit
pub by_digits :
    (P : ℕ → Type 0) → ((d : ℕ) → d < 10 → P d) → ((x d : ℕ) → 0 < x → d < 10 → P x → P (x * 10 + d)) → (x : ℕ) → P x
by_digits P one more x = within x x (omega arith)
  where
    within : (n y : ℕ) → y ≤ n → P y
    within zero y h = one y (omega arith)
    within (suc n) y h = go (within n) (dec_lt y 10)
      where
        go : ((z : ℕ) → z ≤ n → P z) → Dec (y < 10) → P y
        go before (yes small) = one y small
        go before (no big) =
            let same : y / 10 * 10 + y % 10 ≡ y = omega arith in
            subst P same (more (y / 10) (y % 10) (omega arith) (omega arith) (before (y / 10) (omega arith)))

-- how many digits
pub count_one : (n x : ℕ) → x < 10 → count_in n x ≡ 1
unfolding count_in
count_one zero x h = refl
count_one (suc n) x h = rw (count_in, eq-eqb (x / 10) 0 (omega arith))

pub count_more : (n x : ℕ) → 10 ≤ x → count_in (suc n) x ≡ count_in n (x / 10) + 1
unfolding count_in
count_more n x h = rw (count_in, ne_eqb (x / 10) 0 (omega arith))

-- a longer count is the same, where the shorter one is long enough
count_enough : (n x : ℕ) → x < 10 ^ suc n → count_in n x ≡ count_in (suc n) x
count_enough zero x h = count_one 0 x h ∙ sym (count_one 1 x h)
count_enough (suc n) x h = go (dec_lt x 10) (count_enough n (x / 10) (omega (arith, pow-suc 10 (suc n))))
  where
    go : Dec (x < 10) → count_in n (x / 10) ≡ count_in (suc n) (x / 10) → count_in (suc n) x ≡ count_in (suc (suc n)) x
    go (yes small) e = count_one (suc n) x small ∙ sym (count_one (suc (suc n)) x small)
    go (no big) e = count_more n x (omega arith) ∙ ap (◌+ 1) e ∙ sym (count_more (suc n) x (omega arith))

count_most_lem : (k n x : ℕ) → x < 10 ^ suc k → count_in n x ≤ suc k
unfolding count_in
count_most_lem k zero x h = omega arith
count_most_lem zero (suc n) x h = omega (arith, count_one (suc n) x h)
count_most_lem (suc k) (suc n) x h = go (dec_lt x 10) (count_most_lem k n (x / 10) (omega (arith, pow-suc 10 (suc k))))
  where
    go : Dec (x < 10) → count_in n (x / 10) ≤ suc k → count_in (suc n) x ≤ suc (suc k)
    go (yes small) most = omega (arith, count_one (suc n) x small)
    go (no big) most = omega (arith, count_more n x (omega arith))

count_some : (n x : ℕ) → 0 < count_in n x
unfolding count_in
count_some zero x = omega arith
count_some (suc n) x = go (dec_lt x 10)
  where
    go : Dec (x < 10) → 0 < count_in (suc n) x
    go (yes small) = omega (arith, count_one (suc n) x small)
    go (no big) = omega (arith, count_more n x (omega arith))

count_long : (n x : ℕ) → x < 10 ^ suc n → x < 10 ^ count_in n x
unfolding count_in
count_long zero x h = h
count_long (suc n) x h = go (dec_lt x 10) (count_long n (x / 10) (omega (arith, pow-suc 10 (suc n))))
  where
    go : Dec (x < 10) → x / 10 < 10 ^ count_in n (x / 10) → x < 10 ^ count_in (suc n) x
    go (yes small) long = rw (count_one (suc n) x small) small
    go (no big) long = rw (count_more n x (omega arith), add-one) (omega (arith, pow-suc 10 (count_in n (x / 10))))

-- the digits
pub length_digits : (n x : ℕ) → length (digits_of n x) ≡ n
unfolding digits_of
length_digits zero x = refl
length_digits (suc n) x =
    length-append (digits_of n (x / 10)) ((48 + x % 10) ∷ []) ∙ omega (arith, length_digits n (x / 10))

pub data Digits : List ℕ → Type 0 where
  none : Digits []
  more : {b : ℕ} {bytes : List ℕ} → 48 ≤ b → b ≤ 57 → Digits bytes → Digits (b ∷ bytes)

one_more_digit : {b : ℕ} {bytes : List ℕ} → Digits bytes → 48 ≤ b → b ≤ 57 → Digits (bytes ++ (b ∷ []))
one_more_digit none low high = more low high none
one_more_digit (more l h digits) low high = more l h (one_more_digit digits low high)

all_digits : (n x : ℕ) → Digits (digits_of n x)
unfolding digits_of
all_digits zero x = none
all_digits (suc n) x = one_more_digit (all_digits n (x / 10)) (omega arith) (omega arith)

-- the number that digits say, after v
pub said_from : ℕ → List ℕ → ℕ
said_from v [] = v
said_from v (b ∷ bytes) = said_from (v * 10 + (b - 48)) bytes

said_more : (v : ℕ) (bytes : List ℕ) (b : ℕ) → said_from v (bytes ++ (b ∷ [])) ≡ said_from v bytes * 10 + (b - 48)
unfolding said_from
said_more v [] b = refl
said_more v (a ∷ bytes) b = said_more (v * 10 + (a - 48)) bytes b

digits_say : (n x : ℕ) → x < 10 ^ n → said_from 0 (digits_of n x) ≡ x
unfolding digits_of said_from
digits_say zero x h = omega arith
digits_say (suc n) x h =
    said_more 0 (digits_of n (x / 10)) (48 + x % 10) ∙ omega (arith, digits_say n (x / 10) (omega (arith, pow-suc 10 n)))

-- the decimal
pub decimal_digits : (x : ℕ) → Digits (decimal_of x)
unfolding decimal_of
decimal_digits x = all_digits (count_in 19 x) x

pub decimal_count : (x : ℕ) → length (decimal_of x) ≡ count_in 19 x
unfolding decimal_of
decimal_count x = length_digits (count_in 19 x) x

pub decimal_some : (x : ℕ) → 0 < length (decimal_of x)
unfolding decimal_of
decimal_some x = omega (arith, length_digits (count_in 19 x) x, count_some 19 x)

pub decimal_length : (k x : ℕ) → x < 10 ^ suc k → length (decimal_of x) ≤ suc k
unfolding decimal_of
decimal_length k x h = omega (arith, length_digits (count_in 19 x) x, count_most_lem k 19 x h)

pub decimal_one : (d : ℕ) → d < 10 → decimal_of d ≡ (48 + d) ∷ []
unfolding decimal_of digits_of
decimal_one d h = rw (count_one 19 d h) (ap (λ (e : ℕ). (48 + e) ∷ []) (mod-eq_of_lt h))

module _ (x : ℕ) (fits : x < 10 ^ 20) where
  -- the number is below the power of ten of its length
  pub decimal_long : x < 10 ^ length (decimal_of x)
  unfolding decimal_of
  decimal_long = rw (length_digits (count_in 19 x) x) (count_long 19 x fits)

  pub decimal_says : said_from 0 (decimal_of x) ≡ x
  unfolding decimal_of
  decimal_says = digits_say (count_in 19 x) x (count_long 19 x fits)

pub decimal_one_to_one : (x y : ℕ) → x < 10 ^ 20 → y < 10 ^ 20 → decimal_of x ≡ decimal_of y → x ≡ y
decimal_one_to_one x y hx hy e = sym (decimal_says x hx) ∙ ap (said_from 0) e ∙ decimal_says y hy

module _ (x d : ℕ) (some : 0 < x) (digit : d < 10) (fits : x * 10 + d < 10 ^ 20) where
  pub decimal_more : decimal_of (x * 10 + d) ≡ decimal_of x ++ ((48 + d) ∷ [])
  unfolding decimal_of digits_of
  decimal_more =
      let front : (x * 10 + d) / 10 ≡ x = omega arith in
      let last : (x * 10 + d) % 10 ≡ d = omega arith in
      let count : count_in 19 (x * 10 + d) ≡ suc (count_in 19 x) =
      count_more 18 (x * 10 + d) (omega arith)
      ∙ ap (λ (y : ℕ). count_in 18 y + 1) front
      ∙ ap (◌+ 1) (count_enough 18 x (omega arith))
      ∙ add-one (count_in 19 x) in
      rw (count, digits_of, front, last)

-- no leading zero
pub first_digit : (x : ℕ) → 0 < x → x < 10 ^ 20 → 48 < get_or (decimal_of x) 0 0
first_digit x =
    by_digits (λ y. 0 < y → y < 10 ^ 20 → 48 < get_or (decimal_of y) 0 0)
    (λ d h some fits. rw (decimal_one d h) (omega arith))
    (λ y d low h first some fits.
    rw (decimal_more y d low h fits, get_or-append (decimal_of y) ((48 + d) ∷ []) 0 0 (decimal_some y))
    (first low (omega arith)))
    x

-- a number is read off the front of a text, up to a byte that is no digit
digits_cut :
    {s t : List ℕ} → Digits s → Digits t → {a b : ℕ} {p q : List ℕ} → a < 48 → b < 48 → s ++ (a ∷ p) ≡ t ++ (b ∷ q)
    → (s ≡ t) × (a ∷ p ≡ b ∷ q)
digits_cut none none ha hb e = (refl, e)
digits_cut none (more low high t) ha hb e = absurd (omega (arith, head-eq_of_cons-eq e))
digits_cut (more low high s) none ha hb e = absurd (omega (arith, head-eq_of_cons-eq e))
digits_cut (more low high s) (more low' high' t) ha hb e =
    let rest = digits_cut s t ha hb (tail-eq_of_cons-eq e) in
    let head = head-eq_of_cons-eq e in
    (cc, rest.1)

pub decimal_cut :
    (x y : ℕ) {a b : ℕ} {p q : List ℕ} → x < 10 ^ 20 → y < 10 ^ 20 → a < 48 → b < 48
    → decimal_of x ++ (a ∷ p) ≡ decimal_of y ++ (b ∷ q) → (x ≡ y) × (a ∷ p ≡ b ∷ q)
decimal_cut x y hx hy ha hb e =
    let cut = digits_cut (decimal_digits x) (decimal_digits y) ha hb e in
    (decimal_one_to_one x y hx hy cut.0, cut.1)
