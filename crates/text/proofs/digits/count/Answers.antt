-- The logarithm counts the digits after the first; 0 has none.
use Rattle.std.proofs.Common.{rules}
use Rattle.text.proofs.PrintLaws.{counted}
use Rattle.text.proofs.digits.count.Goals as goal

pub returns : goal.returns
returns c =
    let e = c.checked_ilog10.ensures in
    counted c.args.x c.checked_ilog10.result e.none e.power_le e.next_power_gt e.bound (search rules)
