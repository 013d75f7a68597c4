-- 'for each job, how many windows a cycle has (H / kT), how many of them end short, and the first slot in which one does, or never'
use Rattle.std.specs.Prelude.{ℕ, ◌/◌, cond, List, [], ltb, None}
use Rattle.job.specs.declared.record.Job.{Job}
use Rattle.job.specs.declared.list.JobList.{JobList}
use Rattle.job.specs.Limit.{cycle_most}
use Rattle.job.specs.Told.{Told, row, passed}
use Rattle.job.specs.Check.{job_at, otherwise}
use Rattle.job.specs.Filled.{filled_upto}
use Rattle.job.specs.Window.{window_of}
use Rattle.admission.specs.Cycle.{cycle_of}
use Rattle.place.specs.declared.setting.Setting.{Setting}
use Rattle.run.specs.State.{fresh_of}
use Rattle.run.specs.Slot.{count_upto}
use Rattle.run.specs.Step.{start_told}
use Rattle.shortfall.specs.declared.inner.Tally.{Tally}
use Rattle.shortfall.specs.declared.answer.Below.{Below}
use Rattle.shortfall.specs.declared.answer.Judgement.{Judgement}
use Rattle.shortfall.specs.Tally.{tally_at, tallies_of}

-- one job, by its short windows in one cycle
abbrev pub below_of : Job → ℕ → Tally → Below
below_of job cycle t = record { windows = cycle / window_of job; short = t.short; first = t.first }

abbrev pub none_below : Below
none_below = record { windows = 0; short = 0; first = None }

-- the first n jobs of a list
abbrev pub judged_upto : JobList → ℕ → List Tally → ℕ → Judgement
judged_upto l cycle tallies n =
    record {
      fallen = count_upto (λ i. ltb 0 (tally_at tallies i).short) n;
      jobs = filled_upto none_below (λ i. below_of (job_at l.jobs i) cycle (tally_at tallies i)) n;
    }

abbrev pub judged_of : JobList → ℕ → List Tally → Judgement
judged_of l cycle tallies = judged_upto l cycle tallies l.count

-- 'Refusals: those of a start (15, 1 to 6), then 8.'
unfoldable pub shortfall_told : JobList → Setting → Told
shortfall_told l setting = otherwise (start_told l setting) (cond (ltb cycle_most (cycle_of l)) (row 8 []) passed)

-- 'runs one cycle from slot 0'
abbrev pub cycle_judged : JobList → Setting → Judgement
cycle_judged l setting = judged_of l (cycle_of l) (tallies_of (fresh_of l setting) (cycle_of l))
