-- Whatever is told of a fill, and of `below`, is told of some answer.
use mathlib.Core.Path.{◌≡◌, refl}
use mathlib.Core.Bool.{Bool, true, false, cond}
use mathlib.Core.List.{List}
use Prim.Native.Nat.{ℕ, zero, suc, ◌+◌, ◌*◌, ◌%◌}
use lib.Dec.{leb, ltb, eqb}
use lib.ListN.{length}
use Rattle.std.specs.Prelude.{Result, Ok, Err}
use Rattle.job.specs.declared.record.Job.{Job}
use Rattle.job.specs.declared.list.JobList.{JobList}
use Rattle.job.specs.declared.refusal.Refusal.{Refusal}
use Rattle.job.specs.declared.refusal.Refusal.TheVariants.{NoJobs, TooManyJobs, Period, Service, Window, Share, CycleTooLong, StateOutOfRange, ClockAtLimit, BufferTooShort, JobBytes, OrderOrModel}
use Rattle.job.specs.Told.{Told, passed, told, told_checked}
use Rattle.job.specs.Limit.{count_most, t_most, k_most, cycle_most}
use Rattle.job.specs.Check.{allowed, job_at, job_told, otherwise, jobs_told, list_told}
use Rattle.admission.specs.Cycle.{cycle_of}
use Rattle.place.specs.declared.setting.Setting.{Setting}
use Rattle.place.specs.Setting.{setting_allowed}
use Rattle.run.specs.declared.state.State.{State}
use Rattle.run.specs.State.{clock_most}
use Rattle.run.specs.Range.{state_in_range}
use Rattle.run.specs.Step.{start_told, start_state}
use Rattle.timetable.specs.Table.{write_told}
use Rattle.shortfall.specs.Shortfall.{shortfall_told}
use Rattle.entry.specs.JobBytes.{list_from}
use Rattle.entry.specs.Entry.{whole_jobs, fill_told}
use Rattle.entry.specs.Below.{room_told, below_told}

abbrev Answered : Told → Type 0
Answered t = (answer : Result (Unit {0}) Refusal) × (told_checked answer ≡ t)

passes : Answered passed
passes = (Ok tt, refl)

refuses : (r : Refusal) → Answered (told r)
refuses r = (Err r, refl)

one_of : (b : Bool) {x y : Told} → Answered x → Answered y → Answered (cond b x y)
one_of true x y = x
one_of false x y = y

-- by the tests of each
job_answered : (i : ℕ) (j : Job) → Answered (job_told i j)
unfolding job_told
job_answered i j =
    one_of (allowed j.t t_most)
    (one_of (allowed j.c j.t)
    (one_of (allowed j.k k_most)
    (one_of (allowed j.m j.k) passes (refuses (Share i)))
    (refuses (Window i)))
    (refuses (Service i)))
    (refuses (Period i))

jobs_answered : (jobs : List Job) (n : ℕ) → Answered (jobs_told jobs n)
unfolding jobs_told otherwise
jobs_answered jobs zero = passes
jobs_answered jobs (suc n) =
    one_of (eqb (jobs_told jobs n).number 0) (job_answered n (job_at jobs n)) (jobs_answered jobs n)

start_answered : (l : JobList) (s : Setting) → Answered (start_told l s)
unfolding start_told list_told
start_answered l s =
    one_of (setting_allowed s)
    (one_of (eqb l.count 0) (refuses NoJobs)
    (one_of (ltb count_most l.count) (refuses TooManyJobs) (jobs_answered l.jobs l.count)))
    (refuses OrderOrModel)

write_answered : (s : State) (len offset n : ℕ) → Answered (write_told s len offset n)
unfolding write_told
write_answered s len offset n =
    one_of (state_in_range s)
    (one_of (leb (offset + n) len)
    (one_of (leb (s.clock + n) clock_most) passes (refuses ClockAtLimit))
    (refuses BufferTooShort))
    (refuses StateOutOfRange)

shortfall_answered : (l : JobList) (s : Setting) → Answered (shortfall_told l s)
unfolding shortfall_told otherwise
shortfall_answered l s =
    one_of (eqb (start_told l s).number 0)
    (one_of (ltb cycle_most (cycle_of l)) (refuses CycleTooLong) passes)
    (start_answered l s)

module _ (jobs : List ℕ) (s : Setting) (len : ℕ) where
  abbrev l : JobList
  l = list_from jobs

  pub fill_answered : (offset n : ℕ) → Answered (fill_told jobs s len offset n)
  unfolding fill_told whole_jobs otherwise
  fill_answered offset n =
      one_of (eqb (length jobs % 6) 0)
      (one_of (eqb (start_told l s).number 0) (write_answered (start_state l s) len offset n) (start_answered l s))
      (refuses JobBytes)

  pub below_answered : Answered (below_told jobs s len)
  unfolding below_told room_told whole_jobs otherwise
  below_answered =
      one_of (eqb (length jobs % 6) 0)
      (one_of (eqb (shortfall_told l s).number 0)
      (one_of (ltb len (l.count * 12)) (refuses BufferTooShort) passes)
      (shortfall_answered l s))
      (refuses JobBytes)
