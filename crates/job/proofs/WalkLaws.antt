-- A walk under two bounds: where it goes on, and where it ends.
use mathlib.Core.Path.{◌≡◌, refl}
use mathlib.Core.Bool.{Bool, true, false, ◌&&◌}
use Prim.Native.Nat.{ℕ, min, ◌≤◌, ◌<◌}
use native.Mathlib.Omega.{arith}
use lib.Dec.{ltb}
use borrow.Author.Tests.{ltb-true, ltb-false}
use Rattle.job.proofs.TestLaws.{clash, both}

module _ (i a b : ℕ) where
  pub below_first : (ltb i a && ltb i b) ≡ true → i < a
  below_first e = ltb-true i a (both (ltb i a) (ltb i b) e).0

  pub below_second : (ltb i a && ltb i b) ≡ true → i < b
  below_second e = ltb-true i b (both (ltb i a) (ltb i b) e).1

  pub at_the_end : (ltb i a && ltb i b) ≡ false → i ≤ a → i ≤ b → i ≡ min a b
  at_the_end e = go (ltb i a) (ltb i b) refl refl e
    where
      go : (x y : Bool) → ltb i a ≡ x → ltb i b ≡ y → (x && y) ≡ false → i ≤ a → i ≤ b → i ≡ min a b
      go false y f g e ha hb = omega (arith, ltb-false i a f)
      go true false f g e ha hb = omega (arith, ltb-false i b g)
      go true true f g e ha hb = absurd (clash e refl)
