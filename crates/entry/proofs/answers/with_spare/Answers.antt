-- Row 14, row 15 for a strange `spare`, or `below` in the setting that was made.
use mathlib.Core.Path.{sym, ◌∙◌}
use lib.ListN.{length}
use Rattle.std.proofs.lemmas.Result.{err_from_is_err_and}
use Rattle.entry.proofs.EntryLaws.{read_whole, read_broken}
use Rattle.entry.proofs.BelowLaws.{entry_broken, entry_broken_stays, entry_strange, entry_strange_stays, entry_asks, entry_writes}
use Rattle.entry.proofs.answers.with_spare.Goals as goal

pub returns-in_err-list_from : goal.returns-in_err-list_from
returns-in_err-list_from c =
    let a = c.args in
    let p = err_from_is_err_and c.from_residual.result c.from_residual.ensures.1 in
    let broken = read_broken a.jobs.now c.in_err-list_from.field-0.0 c.in_err-list_from.ensures.0 in
    rw (p.1, p.2) (
      broken.1 ∙ sym (entry_broken a.jobs.now a.order a.model a.spare (length a.buf.now) broken.0),
      entry_broken_stays a.jobs.now a.order a.model a.spare a.buf.now broken.0,
    )

pub returns-then-spare-gt1 : goal.returns-then-spare-gt1
returns-then-spare-gt1 c =
    let a = c.args in
    let strange = c.if-spare-gt1.true in
    let whole = read_whole a.jobs.now c.in_ok-list_from.ensures.0 in (
      sym (entry_strange a.jobs.now a.order a.model a.spare strange (length a.buf.now) whole),
      entry_strange_stays a.jobs.now a.order a.model a.spare strange a.buf.now,
    )

pub returns : goal.returns
returns c =
    let a = c.args in
    let plain = c.if-spare-gt1.false in
    let below = c.below.ensures in (
      below.0 ∙ sym (entry_asks a.jobs.now a.order a.model a.spare plain (length a.buf.now)),
      below.1 ∙ sym (entry_writes a.jobs.now a.order a.model a.spare plain a.buf.now),
    )
