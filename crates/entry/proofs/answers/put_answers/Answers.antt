-- The answers so far, and the next one behind them.
use Rattle.entry.proofs.BelowLaws.{answers_start, answers_room, answers_more}
use Rattle.entry.proofs.answers.put_answers.Goals as goal

pub loop-below-init : goal.loop-below-init
loop-below-init c = answers_start c.args.jobs.now c.args.buf.now c.requires

pub put_below-end-requires : goal.put_below-end-requires
put_below-end-requires c =
    let loop = c.loop-below in
    answers_room c.args.jobs.now c.args.buf.now c.requires loop.below-index c.loop-below-test.true loop.invariant

pub loop-below-preserved : goal.loop-below-preserved
loop-below-preserved c =
    let loop = c.loop-below in
    let written = c.put_below-end.ensures in
    answers_more c.args.jobs.now c.args.buf.now c.requires loop.below-index c.loop-below-test.true loop.invariant written.value written.buf_after
