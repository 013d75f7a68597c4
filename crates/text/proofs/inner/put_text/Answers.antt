-- The bytes written are the text.
use Rattle.std.proofs.Common.{◌+◌, ◌-◌, length, ap, ◌∙◌, arith}
use Rattle.text.specs.Written.{written}
use Rattle.text.proofs.WrittenLaws.{written_mid}
use Rattle.text.proofs.inner.put_text.Goals as goal

pub returns-clause-buf_after : goal.returns-clause-buf_after
returns-clause-buf_after c =
    let a = c.args in
    let same = c.copy_from_slice.ensures.after in
    written_mid a.buf.now a.at (a.at + length a.text.now - a.at) c.copy_from_slice.new.self (omega (arith, ap length same))
    ∙ ap (written a.buf.now a.at) same
