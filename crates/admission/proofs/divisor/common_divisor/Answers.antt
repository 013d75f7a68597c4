-- A step of Euclid's rule keeps the divisors, and where the rest is 0 the divisor is known.
use mathlib.Core.Path.{◌≡◌}
use native.Mathlib.Omega.{arith}
use Rattle.admission.proofs.DivisorLaws.{divisor_ends, divisor_step}
use Rattle.admission.proofs.divisor.common_divisor.Goals as goal

pub loop-y-preserved : goal.loop-y-preserved
loop-y-preserved c = λ d s. c.loop-y.invariant d (divisor_step s)

pub returns : goal.returns
returns c =
    let ended : c.loop-y.y ≡ 0 = omega arith in
    c.loop-y.invariant c.loop-y.x (rw ended (divisor_ends c.loop-y.x))
