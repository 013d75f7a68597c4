use Rattle.std.proofs.Common.{◌≡◌, true, false, refl, sym, ◌∙◌, arith}
use borrow.Author.Tests.{eq-eqb, ne_eqb, lt-ltb}
use Rattle.std.proofs.lemmas.Result.{err_from_is_err_and}
use Rattle.job.specs.Told.{passed}
use Rattle.job.specs.Check.{list_told}
use Rattle.job.proofs.CheckLaws.{no_job_told, one_more, by_count, by_jobs, found}
use Rattle.job.proofs.Meaning.{passes_exactly}
use Rattle.job.proofs.list.JobList.check.Goals as goal

-- after the loop every job has passed
all_pass : (c : goal.After-loop-at) → list_told c.args.self ≡ passed
all_pass c =
    let l = c.args.self in
    let all : c.loop-at.at ≡ l.count = omega arith in
    by_jobs l (omega arith) (omega arith) ∙ rw all at c.loop-at.invariant

pub returns-then-count-eq0 : goal.returns-then-count-eq0
returns-then-count-eq0 c = (sym (by_count _ true _ (eq-eqb _ _ c.if-count-eq0.true) refl), tt)

pub returns-then-count-gt-COUNT_MOST : goal.returns-then-count-gt-COUNT_MOST
returns-then-count-gt-COUNT_MOST c = (sym (by_count _ false true (ne_eqb _ _ c.if-count-eq0.false) (lt-ltb _ _ c.if-count-gt-COUNT_MOST.true)), tt)

pub loop-at-init : goal.loop-at-init
loop-at-init c = no_job_told c.args.self.jobs

pub returns-in_err-check : goal.returns-in_err-check
returns-in_err-check c =
    let p = err_from_is_err_and c.from_residual.result c.from_residual.ensures.1 in
    let fault = c.in_err-check.ensures.0 in
    rw (p.1, p.2)
    (sym (found c.args.self (omega arith) (omega arith) c.loop-at.at c.in_err-check.field-0.0 (omega arith) c.loop-at.invariant (sym fault)), tt)

pub loop-at-preserved : goal.loop-at-preserved
loop-at-preserved c = one_more c.args.self.jobs c.loop-at.at c.loop-at.invariant ∙ sym c.in_ok-check.ensures.0

pub invariant_of-result : goal.invariant_of-result
invariant_of-result c = (passes_exactly c.args.self).0 (all_pass c)

pub returns : goal.returns
returns c = (sym (all_pass c), refl)
