use Rattle.std.proofs.Common.{◌≡◌, ◌<◌, ap, arith, min}
use Rattle.job.specs.declared.list.JobList.{JobList}
use Rattle.job.specs.Limit.{count_most}
use Rattle.job.proofs.FilledLaws.{none_put_upto, one_more_put_upto}
use Rattle.job.proofs.list.JobList.by.Goals as goal

pub loop-at-init : goal.loop-at-init
loop-at-init g c = (
  ap (λ (l : JobList). l.count) c.empty-list.ensures,
  none_put_upto _ (ap (λ (l : JobList). l.jobs) c.empty-list.ensures),
)

pub loop-at-preserved : goal.loop-at-preserved
loop-at-preserved g c =
    let room : c.loop-at.at < count_most = omega arith in
    (c.loop-at.invariant.0, one_more_put_upto _ _ _ _ room c.loop-at.invariant.1 c.job.ensures)

pub returns : goal.returns
returns g c =
    let all : c.loop-at.at ≡ min c.args.count count_most = omega arith in
    (c.loop-at.invariant.0, rw all at c.loop-at.invariant.1)
