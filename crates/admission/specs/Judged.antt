-- What admission decides about, as facts: in the limits and the library's words, with none of the definitions that compute it.
use Rattle.std.specs.Prelude.{ℕ, ◌+◌, ◌*◌, ◌/◌, ◌≤◌, ◌<◌, ◌≡◌, get_or, take}
use Rattle.std.specs.Int.{◌∣◌}
use mathlib.Core.List.{map, sum}
use Rattle.job.specs.declared.record.Job.{Job}
use Rattle.job.specs.declared.list.JobList.{JobList}
use Rattle.job.specs.Limit.{relaxed, cycle_most}
use Rattle.job.specs.Check.{no_job}
use Rattle.job.specs.Sound.{SoundList}

-- x is a multiple of kT, for every job of the list
abbrev pub CommonMultiple : JobList → ℕ → Type 0
CommonMultiple l x = (i : ℕ) → i < l.count → let j = get_or l.jobs i no_job in j.k * j.t ∣ x

-- 'The cycle H is the least common multiple of all kT.'
pub record LeastCommonMultiple (l : JobList) (h : ℕ) : Type 0 where
  pub positive : 0 < h
  pub common : CommonMultiple l h
  pub least : (x : ℕ) → 0 < x → CommonMultiple l x → h ≤ x

-- 'The load is the sum over jobs of m times C times H/(kT)', with no rounded share: h is whole windows of each job
pub record Load (l : JobList) (h d : ℕ) : Type 0 where
  pub whole : (i : ℕ) → i < l.count → let j = get_or l.jobs i no_job in h / (j.k * j.t) * (j.k * j.t) ≡ h
  pub shares : d ≡ sum ◌+◌ 0 (map (λ (j : Job). j.m * j.c * (h / (j.k * j.t))) (take l.count l.jobs))

-- a sound list in the relaxed model, of a cycle within the limit: what cycle and load decide about
pub record Judged (l : JobList) (model h d : ℕ) : Type 0 where
  pub model_relaxed : model ≡ relaxed
  pub sound : SoundList l
  pub cycle : LeastCommonMultiple l h
  pub cycle_short : h ≤ cycle_most
  pub load : Load l h d
