-- A call answers the slice's job at its number.
use Rattle.std.proofs.Common.{rules}
use Rattle.job.specs.Check.{job_at}
use Rattle.job.proofs.FilledLaws.{by_calls}
use Rattle.job.proofs.list.JobList.of.Goals as goal

pub returns : goal.returns
returns c = by_calls _ (job_at c.args.jobs.now) _ c.by.result c.by.ensures (λ at j less answers. search rules)
