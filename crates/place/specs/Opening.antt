-- A place of no job, and a job at the opening of its window.
use Rattle.std.specs.Prelude.{ℕ, ◌<◌, false}
use Rattle.job.specs.declared.record.Job.{Job}
use Rattle.job.specs.Check.{no_job}
use Rattle.place.specs.declared.record.Place.{Place}

-- a job in period p with no slot gone, no service and no tag
abbrev pub unserved_in : Job → ℕ → Place
unserved_in j p = record { job = j; at = record { e = 0; p = p; u = 0; s = 0; v = 0; tag = false } }

abbrev pub blank : Place
blank = unserved_in no_job 0

-- a job is here: no job of a list has C = 0
abbrev pub Here : Place → Type 0
Here q = 0 < q.job.c

abbrev pub opened : Job → Place
opened j = unserved_in j 1
