-- Moments in absolute time beside distances from now: the same order, with no sign.
use mathlib.Core.Path.{◌≡◌, sym, ap, ap₂, ◌∙◌}
use Prim.Native.Nat.{ℕ, ◌+◌, ◌*◌}
use native.Mathlib.Omega.{arith}
use lib.Dec.{ltb}
use Rattle.place.specs.declared.inner.choice.Fraction.{Fraction}
use Rattle.place.specs.Choice.{nearer_of}
use Rattle.place.proofs.DistanceLaws.{plus, minus, side, nearer_is, ltb_shift}
use Rattle.rules.specs.Rules.{Moment, sooner}

-- a moment is as far from slot n as a distance says
pub record Away (n : ℕ) (a : Moment) (h : Fraction) : Type 0 where
  pub same_den : a.den ≡ h.den
  pub shifted : a.num + minus h.num ≡ n * h.den + plus h.num

pub sooner_is : (n : ℕ) (a b : Moment) (g h : Fraction) → Away n a g → Away n b h → sooner a b ≡ nearer_of g h
sooner_is n a b g h at bt =
    ap₂ (λ (x y : ℕ). ltb (a.num * x) (b.num * y)) bt.same_den at.same_den
    ∙ ltb_shift (a.num * h.den) (b.num * g.den) (side g h) (side h g) (minus g.num * h.den + minus h.num * g.den) (n * g.den * h.den)
    (omega (arith, ap (◌* h.den) at.shifted))
    (omega (arith, ap (◌* g.den) bt.shifted))
    ∙ sym (nearer_is g h)
