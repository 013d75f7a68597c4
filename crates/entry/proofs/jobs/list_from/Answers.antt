-- Row 14, or the list by the calls that read its jobs.
use mathlib.Core.Path.{sym}
use Rattle.std.proofs.Common.{rules}
use Rattle.job.proofs.FilledLaws.{by_calls}
use Rattle.entry.specs.JobBytes.{job_from}
use Rattle.entry.proofs.EntryLaws.{whole_told, broken_told}
use Rattle.entry.proofs.jobs.list_from.Goals as goal

pub returns-then-bytes-ne0 : goal.returns-then-bytes-ne0
returns-then-bytes-ne0 c = (sym (broken_told _ _ c.if-bytes-ne0.true), tt)

pub returns : goal.returns
returns c =
    (sym (whole_told _ _ c.if-bytes-ne0.false), by_calls _ (job_from c.args.bytes.now) _ _ c.by.ensures (λ at j h called. search rules))
