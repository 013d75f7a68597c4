-- By whatever is the greatest common divisor the product is the least common multiple.
use native.Mathlib.Nat.{pos_of_dvd_of_pos}
use native.Mathlib.Omega.{arith}
use Rattle.admission.proofs.CycleLaws.{lcm_by}
use Rattle.admission.proofs.inner.common_multiple.Goals as goal

pub nonzero_div-result : goal.nonzero_div-result
nonzero_div-result c = pos_of_dvd_of_pos c.common_divisor.ensures.right (omega arith)

pub returns : goal.returns
returns c = cc (lcm_by _ _ _ c.common_divisor.ensures)
