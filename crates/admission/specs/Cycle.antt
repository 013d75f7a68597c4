-- 'The cycle H is the least common multiple of all kT.'
use Rattle.std.specs.Prelude.{ℕ, zero, suc, ◌*◌, ◌/◌, cond, List, [], ◌∷◌, leb, Result}
use Rattle.job.specs.declared.record.Job.{Job}
use Rattle.job.specs.declared.list.JobList.{JobList}
use Rattle.job.specs.Limit.{cycle_most}
use Rattle.job.specs.declared.refusal.Refusal.{Refusal}
use Rattle.job.specs.Told.{Told, row, told_answer}
use Rattle.job.specs.Window.{window_of}
use Rattle.job.specs.Check.{job_at}
use Rattle.admission.specs.Divisor.{gcd}

unfoldable pub lcm : ℕ → ℕ → ℕ
lcm a b = a / gcd a b * b

-- the cycle of the first n jobs
unfoldable pub cycle_upto : List Job → ℕ → ℕ
cycle_upto jobs zero = 1
cycle_upto jobs (suc n) = lcm (cycle_upto jobs n) (window_of (job_at jobs n))

abbrev pub cycle_of : JobList → ℕ
cycle_of l = cycle_upto l.jobs l.count

-- '8: cycle over the limit'
unfoldable pub within_told : ℕ → Told
within_told h = cond (leb h cycle_most) (row 0 (h ∷ [])) (row 8 [])

abbrev pub cycle_told : JobList → Told
cycle_told l = within_told (cycle_of l)

abbrev pub told_cycle : Result ℕ Refusal → Told
told_cycle h = told_answer (λ (x : ℕ). x ∷ []) h
