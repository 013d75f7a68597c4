-- Three numbers, one after another.
use Rattle.entry.proofs.BelowLaws.{answer_written}
use Rattle.entry.proofs.answers.put_below.Goals as goal

pub returns-clause-buf_after : goal.returns-clause-buf_after
returns-clause-buf_after c =
    let short = c.put_word-short_at.ensures in
    let first = c.put_word-first_at.ensures in
    answer_written c.args.below c.args.buf.now c.args.at c.requires short.value short.buf_after first.value first.buf_after c.unwrap_or.ensures c.put_word.ensures.buf_after
