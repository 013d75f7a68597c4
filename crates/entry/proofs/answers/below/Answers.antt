-- Row 14, the rows of the question, row 12, or the answers written.
use mathlib.Core.Path.{◌≡◌, refl, sym, ap, subst, ◌∙◌}
use Prim.Native.Nat.{◌*◌, ◌≤◌, ◌<◌}
use lib.Dec.{eqb}
use lib.ListN.{length}
use Rattle.std.proofs.lemmas.Result.{err_from_is_err_and}
use Rattle.job.specs.declared.list.JobList.{JobList}
use Rattle.job.specs.Told.{Told, passed, told}
use Rattle.job.proofs.ToldLaws.{told_refuses}
use Rattle.text.specs.Written.{written}
use Rattle.shortfall.specs.Shortfall.{shortfall_told, cycle_judged}
use Rattle.entry.specs.JobBytes.{list_from}
use Rattle.entry.specs.Below.{answers_upto}
use Rattle.entry.proofs.EntryLaws.{read_whole, read_broken}
use Rattle.entry.proofs.BelowLaws.{told_few, answers_written, below_broken, below_refused, below_no_room, below_passes, below_stays, below_writes}
use Rattle.entry.proofs.answers.below.Goals as goal

pub returns-in_err-list : goal.returns-in_err-list
returns-in_err-list c =
    let a = c.args in
    let p = err_from_is_err_and c.from_residual.result c.from_residual.ensures.1 in
    let broken = read_broken a.jobs.now c.in_err-list.field-0.0 c.in_err-list.ensures.0 in
    let told = below_broken a.jobs.now a.setting (length a.buf.now) broken.0 in
    rw (p.1, p.2) (broken.1 ∙ sym told, below_stays _ _ _ told refl)

pub returns-in_err-judgement : goal.returns-in_err-judgement
returns-in_err-judgement c =
    let a = c.args in
    let p = err_from_is_err_and c.from_residual-in_err-judgement.result c.from_residual-in_err-judgement.ensures.1 in
    let r = c.in_err-judgement.field-0.0 in
    let read = c.in_ok-list.ensures in
    let asked : shortfall_told (list_from a.jobs.now) a.setting ≡ told r = cc (read.1, c.in_err-judgement.ensures.0) in
    let refused = ap (λ (t : Told). eqb t.number 0) asked ∙ told_refuses r in
    let told = below_refused a.jobs.now a.setting (length a.buf.now) (read_whole a.jobs.now read.0) refused ∙ asked in
    rw (p.1, p.2) (sym told, below_stays _ _ _ told (told_refuses r))

pub returns-then-buf-list : goal.returns-then-buf-list
returns-then-buf-list c =
    let a = c.args in
    let read = c.in_ok-list.ensures in
    let asked : shortfall_told (list_from a.jobs.now) a.setting ≡ passed = cc (read.1, c.in_ok-judgement.ensures.0) in
    let short = subst (λ (l : JobList). length a.buf.now < l.count * 12) read.1 c.if-buf-list.true in
    let told =
    below_no_room a.jobs.now a.setting (length a.buf.now) (read_whole a.jobs.now read.0) (ap (λ (t : Told). t.number) asked) short in
    (sym told, below_stays _ _ _ told refl)

pub returns : goal.returns
returns c =
    let a = c.args in
    let list = c.in_ok-list.list in
    let read = c.in_ok-list.ensures in
    let judged = c.in_ok-judgement.ensures in
    let few = told_few list a.setting judged.0 in
    let asked : shortfall_told (list_from a.jobs.now) a.setting ≡ passed = cc (read.1, judged.0) in
    let fits = subst (λ (l : JobList). l.count * 12 ≤ length a.buf.now) read.1 c.if-buf-list.false in
    let told =
    below_passes a.jobs.now a.setting (length a.buf.now) (read_whole a.jobs.now read.0) (ap (λ (t : Told). t.number) asked) fits in (
      sym told,
      answers_written list a.setting a.buf.now few judged.1 c.put_answers.ensures
          ∙ ap (λ (l : JobList). written a.buf.now 0 (answers_upto (cycle_judged l a.setting).jobs l.count)) read.1
          ∙ sym (below_writes a.jobs.now a.setting a.buf.now told),
    )
