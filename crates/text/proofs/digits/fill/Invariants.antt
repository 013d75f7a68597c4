-- The loop's invariant: with the digits that are left before it, what is filled makes all of them.
use Rattle.std.proofs.Common.{◌≡◌, length, drop, ◌++◌}
use Rattle.text.specs.Decimal.{digits_of}
use Rattle.text.proofs.digits.fill.Given as goal

abbrev pub invariant-loop-at : goal.invariant-loop-at
invariant-loop-at l = (length l.slice ≡ length l.initial.slice) × (digits_of l.at l.rest ++ drop l.at l.slice ≡ digits_of (length l.initial.slice) l.x)
