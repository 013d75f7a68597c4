-- A test of one number as a fact, and the fact as the test.
use mathlib.Core.Path.{◌≡◌, refl, sym, ◌∙◌}
use mathlib.Core.Bool.{Bool, true, false, ◌&&◌, ◌||◌}
use mathlib.Core.Logic.{◌⊎◌, inl, inr}
use Prim.Native.Nat.{ℕ}
use native.Mathlib.Omega.{arith}
use lib.Dec.{leb}
use borrow.Author.Tests.{leb-true, le-leb}
use Rattle.job.specs.Check.{allowed}
use Rattle.job.specs.Sound.{Within}

pub clash : {b : Bool} → b ≡ false → b ≡ true → ⊥
clash {b} e f = let z : false ≡ true = sym e ∙ f in let y : ◌≡◌ {A = ℕ} 0 1 = cc in omega arith

pub refuted : {b : Bool} → (b ≡ true → ⊥) → b ≡ false
refuted {b = true} never = absurd (never refl)
refuted {b = false} never = refl

pub both : (a b : Bool) → (a && b) ≡ true → (a ≡ true) × (b ≡ true)
both true b e = (refl, e)
both false b e = absurd (clash refl e)

pub three : (a b c : Bool) → (a && b && c) ≡ true → (a ≡ true) × (b ≡ true) × (c ≡ true)
three a b c e =
    let last = both (a && b) c e in
    let first = both a b last.0 in
    (first.0, first.1, last.1)

pub either : (a b : Bool) → (a || b) ≡ true → (a ≡ true) ⊎ (b ≡ true)
either true b e = inl refl
either false b e = inr e

pub neither : (a b : Bool) → (a || b) ≡ false → (a ≡ false) × (b ≡ false)
neither true b e = absurd (clash e refl)
neither false b e = (refl, e)

pub four : (a b c d : Bool) → (a && b && c && d) ≡ true → (a ≡ true) × (b ≡ true) × (c ≡ true) × (d ≡ true)
four a b c d e =
    let last = both (a && b && c) d e in
    let first = three a b c last.0 in
    (first.0, first.1, first.2, last.1)

pub allowed_within : (x most : ℕ) → allowed x most ≡ true → Within x most
allowed_within x most e =
    let tests = both (leb 1 x) (leb x most) e in
    record { low = leb-true 1 x tests.0; high = leb-true x most tests.1 }

pub within_allowed : (x most : ℕ) → Within x most → allowed x most ≡ true
within_allowed x most w = simp (le-leb 1 x w.low, le-leb x most w.high)

pub not_allowed : (x most : ℕ) → allowed x most ≡ false → ¬ Within x most
not_allowed x most e w = clash e (within_allowed x most w)

pub not_within : (x most : ℕ) → ¬ Within x most → allowed x most ≡ false
not_within x most n = go (allowed x most) refl
  where
    go : (b : Bool) → allowed x most ≡ b → allowed x most ≡ false
    go true e = absurd (n (allowed_within x most e))
    go false e = e
