-- The bytes filled are the number's digits.
use Rattle.std.proofs.Common.{◌+◌, ◌-◌, length, ap, ◌∙◌, arith}
use Rattle.text.specs.Written.{written}
use Rattle.text.proofs.WrittenLaws.{written_mid}
use Rattle.text.proofs.inner.put_decimal.Goals as goal

pub returns-clause-buf_after : goal.returns-clause-buf_after
returns-clause-buf_after c =
    let a = c.args in
    let digits = c.fill.ensures in
    written_mid a.buf.now a.at (a.at + c.count.result - a.at) c.fill.new.slice (omega (arith, ap length digits, c.count.ensures))
    ∙ ap (written a.buf.now a.at) digits
