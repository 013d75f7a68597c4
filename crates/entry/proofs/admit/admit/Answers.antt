-- Row 14, or the verdict on the list that the bytes hold.
use mathlib.Core.Path.{sym, ◌∙◌}
use Rattle.std.proofs.lemmas.Result.{err_from_is_err_and}
use Rattle.entry.proofs.EntryLaws.{read_whole, read_broken, admit_broken, admit_whole}
use Rattle.entry.proofs.admit.admit.Goals as goal

pub returns-in_err-list_from : goal.returns-in_err-list_from
returns-in_err-list_from c =
    let p = err_from_is_err_and c.from_residual.result c.from_residual.ensures.1 in
    let broken = read_broken c.args.jobs.now c.in_err-list_from.field-0.0 c.in_err-list_from.ensures.0 in
    rw (p.1, p.2) (broken.1 ∙ sym (admit_broken c.args.jobs.now c.args.model broken.0))

pub returns : goal.returns
returns c =
    let read = c.in_ok-list_from.ensures in
    cc (c.verdict.ensures, read.1, admit_whole c.args.jobs.now c.args.model (read_whole c.args.jobs.now read.0))
