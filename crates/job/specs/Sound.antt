-- A list within the table 'Quantity, Allowed', as facts, and what it means that a job's row is at fault: in the table's limits and the
-- library's words, with none of the tests of Check.
use Rattle.std.specs.Prelude.{ℕ, ◌≤◌, ◌<◌, List, get_or}
use Rattle.job.specs.declared.record.Job.{Job}
use Rattle.job.specs.declared.list.JobList.{JobList}
use Rattle.job.specs.Limit.{count_most, t_most, k_most}
use Rattle.job.specs.Check.{no_job}

-- 'x: 1 to most'
pub record Within (x most : ℕ) : Type 0 where
  pub low : 1 ≤ x
  pub high : x ≤ most

pub record SoundJob (j : Job) : Type 0 where
  pub t : Within j.t t_most
  pub c : Within j.c j.t
  pub k : Within j.k k_most
  pub m : Within j.m j.k

-- every job before number n is sound
abbrev pub SoundBelow : List Job → ℕ → Type 0
SoundBelow jobs n = (i : ℕ) → i < n → SoundJob (get_or jobs i no_job)

pub record SoundList (l : JobList) : Type 0 where
  pub count : Within l.count count_most
  pub jobs : SoundBelow l.jobs l.count

-- 'T, C, k, m of a job not allowed', each where what is tested before it is allowed: the row's number
pub data FaultOf (j : Job) : ℕ → Type 0 where
  t_fault : ¬ Within j.t t_most → FaultOf j 3
  c_fault : Within j.t t_most → ¬ Within j.c j.t → FaultOf j 4
  k_fault : Within j.t t_most → Within j.c j.t → ¬ Within j.k k_most → FaultOf j 5
  m_fault : Within j.t t_most → Within j.c j.t → Within j.k k_most → ¬ Within j.m j.k → FaultOf j 6

-- 'Rows 3 to 6 name the lowest job at fault'
pub record LowestFault (l : JobList) (n i : ℕ) : Type 0 where
  pub count : Within l.count count_most
  pub listed : i < l.count
  pub below : SoundBelow l.jobs i
  pub fault : FaultOf (get_or l.jobs i no_job) n
