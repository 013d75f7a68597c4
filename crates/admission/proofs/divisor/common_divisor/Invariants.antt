-- The loop's invariant: what is the greatest common divisor of `x` and `y` is that of `a` and `b`.
use Prim.Native.Nat.{ℕ}
use Rattle.admission.specs.Divisor.{GreatestDivisor}
use Rattle.admission.proofs.divisor.common_divisor.Given as goal

abbrev pub invariant-loop-y : goal.invariant-loop-y
invariant-loop-y l = (d : ℕ) → GreatestDivisor l.x l.y d → GreatestDivisor l.a l.b d

abbrev pub decreases-loop-y : goal.decreases-loop-y
decreases-loop-y l = l.y
