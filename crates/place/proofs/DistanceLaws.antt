-- The comparison of distances is a strict weak order where the denominators are positive, and nobody is farther than any.
use mathlib.Core.Path.{◌≡◌, refl, sym, ◌∙◌}
use mathlib.Core.Bool.{Bool, true, false, cond}
use Prim.Native.Nat.{ℕ, zero, suc, ◌+◌, ◌-◌, ◌*◌, ◌≤◌, ◌<◌}
use native.Mathlib.Nat.{le_refl, add-zero, zero-add, zero-mul, mul-le-mul_right, mul-lt-mul_of_pos_right, lt_of_mul-lt-mul_right}
use native.Mathlib.Omega.{arith}
use lib.Dec.{leb, ltb, leb-suc-suc}
use lib.IntN.{ℤ, pos, negsuc, neg_ℤ, ◌-ℤ◌, ◌*ℤ◌}
use lib.Signed.{lt_z}
use borrow.Author.Tests.{leb-true, leb-false, ltb-true, ltb-false, le-leb, lt-leb, lt-ltb, le-ltb}
use Rattle.place.specs.declared.inner.choice.Fraction.{Fraction}
use Rattle.place.specs.Choice.{nearer_of, nobody}
use Rattle.place.proofs.CondLaws.{by_test}

-- an integer as the difference of two naturals

abbrev pub plus : ℤ → ℕ
plus (pos n) = n
plus (negsuc n) = 0

abbrev pub minus : ℤ → ℕ
minus (pos n) = 0
minus (negsuc n) = suc n

plus_neg : (n : ℕ) → plus (neg_ℤ (pos n)) ≡ 0
plus_neg zero = refl
plus_neg (suc n) = refl

minus_neg : (n : ℕ) → minus (neg_ℤ (pos n)) ≡ n
minus_neg zero = refl
minus_neg (suc n) = refl

plus_mul : (z : ℤ) (n : ℕ) → plus (z *ℤ pos n) ≡ plus z * n
plus_mul (pos a) n = refl
plus_mul (negsuc a) n = plus_neg (suc a * n) ∙ sym (zero-mul n)

minus_mul : (z : ℤ) (n : ℕ) → minus (z *ℤ pos n) ≡ minus z * n
minus_mul (pos a) n = sym (zero-mul n)
minus_mul (negsuc a) n = minus_neg (suc a * n)

lt_z_is : (x y : ℤ) → lt_z x y ≡ ltb (plus x + minus y) (plus y + minus x)
lt_z_is (pos a) (pos b) = rw (add-zero a, add-zero b)
lt_z_is (pos a) (negsuc b) = sym (le-ltb (a + suc b) 0 (omega arith))
lt_z_is (negsuc a) (pos b) = sym (lt-ltb 0 (b + suc a) (omega arith))
lt_z_is (negsuc a) (negsuc b) = rw (zero-add (suc a), zero-add (suc b)) (sym (leb-suc-suc (suc b) a))

-- the two parts of a difference
pub difference_parts : (a b : ℕ) → plus (pos a -ℤ pos b) + b ≡ a + minus (pos a -ℤ pos b)
difference_parts a zero = omega arith
difference_parts a (suc b) = go (ltb a (suc b)) refl
  where
    go :
        (t : Bool) → ltb a (suc b) ≡ t
        → plus (cond t (negsuc (suc b - suc a)) (pos (a - suc b))) + suc b ≡ a + minus (cond t (negsuc (suc b - suc a)) (pos (a - suc b)))
    go true e = let h = ltb-true a (suc b) e in omega arith
    go false e = let h = ltb-false a (suc b) e in omega arith

pub difference_plus : (a b : ℕ) → plus (pos a -ℤ pos b) ≤ a
difference_plus a zero = omega arith
difference_plus a (suc b) = by_test (λ (z : ℤ). plus z ≤ a) (ltb a (suc b)) (λ e. omega arith) (λ e. omega arith)

-- two comparisons of numbers that lie equally far apart
pub ltb_shift : (x y u v c d : ℕ) → x + c ≡ u + d → y + c ≡ v + d → ltb x y ≡ ltb u v
ltb_shift x y u v c d e f = go (ltb u v) refl
  where
    go : (b : Bool) → ltb u v ≡ b → ltb x y ≡ b
    go true g = lt-ltb x y (let h = ltb-true u v g in omega arith)
    go false g = le-ltb x y (let h = ltb-false u v g in omega arith)

pub leb_shift : (x y u v c d : ℕ) → x + c ≡ u + d → y + c ≡ v + d → leb x y ≡ leb u v
leb_shift x y u v c d e f = go (leb u v) refl
  where
    go : (b : Bool) → leb u v ≡ b → leb x y ≡ b
    go true g = le-leb x y (let h = leb-true u v g in omega arith)
    go false g = lt-leb x y (let h = leb-false u v g in omega arith)

-- the two sides of a comparison, as naturals: a is nearer than b exactly if `side a b` is less than `side b a`

abbrev pub side : Fraction → Fraction → ℕ
side a b = plus a.num * b.den + minus b.num * a.den

pub nearer_is : (a b : Fraction) → nearer_of a b ≡ ltb (side a b) (side b a)
unfolding nearer_of
nearer_is a b =
    lt_z_is (a.num *ℤ pos b.den) (b.num *ℤ pos a.den)
    ∙ rw (plus_mul a.num b.den, minus_mul a.num b.den, plus_mul b.num a.den, minus_mul b.num a.den)

module _ (a b : Fraction) where
  pub nearer_back : nearer_of a b ≡ true → nearer_of b a ≡ false
  nearer_back e =
      let h = ltb-true (side a b) (side b a) (sym (nearer_is a b) ∙ e) in
      nearer_is b a ∙ le-ltb (side b a) (side a b) (omega arith)

  -- a is nearer than b, and c is not: a is nearer than c
  pub nearer_through : (c : Fraction) → 0 < c.den → nearer_of a b ≡ true → nearer_of c b ≡ false → nearer_of a c ≡ true
  nearer_through c some e f =
      let h = ltb-true (side a b) (side b a) (sym (nearer_is a b) ∙ e) in
      let k = ltb-false (side c b) (side b c) (sym (nearer_is c b) ∙ f) in
      nearer_is a c
      ∙ lt-ltb (side a c) (side c a)
      (lt_of_mul-lt-mul_right b.den
      (omega (arith, mul-lt-mul_of_pos_right h some, mul-le-mul_right a.den k)))

pub nearer_self : (a : Fraction) → nearer_of a a ≡ false
nearer_self a = nearer_is a a ∙ le-ltb (side a a) (side a a) (le_refl (side a a))

pub nobody_farther : (a : Fraction) → 0 < a.den → nearer_of a nobody.away ≡ true
nobody_farther a some =
    nearer_is a nobody.away ∙ lt-ltb (side a nobody.away) (side nobody.away a) (omega arith)
