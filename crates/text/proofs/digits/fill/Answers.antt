-- The loop's invariant: with the digits that are left before it, what is filled makes all of them.
use Rattle.std.proofs.Common.{◌≡◌, ℕ, ◌∙◌, ap, drop, ◌++◌, length-set, arith}
use Rattle.text.specs.Decimal.{digits_of}
use Rattle.text.proofs.PrintLaws.{digit_filled, decimal_whole}
use Rattle.text.proofs.digits.fill.Goals as goal

pub loop-at-preserved : goal.loop-at-preserved
loop-at-preserved c =
    let l = c.loop-at in (
      length-set _ _ _ ∙ l.invariant.0,
      digit_filled l.slice l.at l.rest (omega arith) (omega arith) ∙ l.invariant.1,
    )

pub returns : goal.returns
unfolding digits_of
returns c =
    let l = c.loop-at in
    let none : 0 ≡ l.at = omega arith in
    ap (λ (n : ℕ). digits_of n l.rest ++ drop n l.slice) none ∙ l.invariant.1 ∙ decimal_whole c.args.x _ c.requires
