-- Row 14, a refused start, or what the writer answers on the started state.
use mathlib.Core.Path.{◌≡◌, refl, sym, ap, ◌∙◌}
use lib.Dec.{eqb}
use lib.ListN.{length}
use Rattle.std.proofs.lemmas.Result.{err_from_is_err_and}
use Rattle.job.specs.Told.{Told, passed, told, told_checked}
use Rattle.job.proofs.ToldLaws.{told_refuses}
use Rattle.run.specs.Step.{start_told}
use Rattle.entry.specs.JobBytes.{list_from}
use Rattle.entry.proofs.EntryLaws.{read_whole, read_broken, fill_broken, fill_starts, bytes_stay, writes_on}
use Rattle.entry.proofs.filling.fill.Goals as goal

pub returns-in_err-list_from : goal.returns-in_err-list_from
returns-in_err-list_from c =
    let a = c.args in
    let p = err_from_is_err_and c.from_residual.result c.from_residual.ensures.1 in
    let broken = read_broken a.jobs.now c.in_err-list_from.field-0.0 c.in_err-list_from.ensures.0 in
    let told = fill_broken a.jobs.now a.setting (length a.buf.now) a.offset a.n broken.0 in
    rw (p.1, p.2) (broken.1 ∙ sym told, bytes_stay _ _ _ _ _ told refl)

pub returns-in_err-started : goal.returns-in_err-started
returns-in_err-started c =
    let a = c.args in
    let p = err_from_is_err_and c.from_residual-in_err-started.result c.from_residual-in_err-started.ensures.1 in
    let r = c.in_err-started.field-0.0 in
    let read = c.in_ok-list_from.ensures in
    let start : start_told (list_from a.jobs.now) a.setting ≡ told r =
    cc (c.start-started.ensures.0, read.1, ap told_checked c.in_err-started.was) in
    let refused = ap (λ (t : Told). eqb t.number 0) start ∙ told_refuses r in
    let told = fill_starts a.jobs.now a.setting (length a.buf.now) a.offset a.n (read_whole a.jobs.now read.0) refused ∙ start in
    rw (p.1, p.2) (sym told, bytes_stay _ _ _ _ _ told (told_refuses r))

pub returns : goal.returns
returns c =
    let a = c.args in
    let read = c.in_ok-list_from.ensures in
    let start : start_told (list_from a.jobs.now) a.setting ≡ passed =
    cc (c.start-started.ensures.0, read.1, ap told_checked c.in_ok-started.was) in
    let state = c.start-started.ensures.1 in
    let write = c.write.ensures in
    let on = writes_on a.jobs.now a.setting a.buf.now a.offset a.n (read_whole a.jobs.now read.0) (ap (λ (t : Told). t.number) start) in
    (cc (write.0, state, read.1, on.told_is), cc (write.2, state, read.1, on.bytes_are))
