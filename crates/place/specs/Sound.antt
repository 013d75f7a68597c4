-- What is allowed of a setting, and the ranges of a place, as facts: what `inner` asks for, and what the laws use.
use Rattle.std.specs.Prelude.{ℕ, ◌*◌, ◌≤◌, ◌<◌, ◌≡◌, true, false}
use Rattle.job.specs.declared.record.Job.{Job}
use Rattle.job.specs.Sound.{Within, SoundJob}
use Rattle.place.specs.declared.setting.Setting.{Setting}
use Rattle.place.specs.declared.record.Place.{Place}
use Rattle.place.specs.Setting.{by_units}
use Rattle.place.specs.Opening.{blank, Here}

-- '15: order or model number not 0 or 1'
pub record Allowed (s : Setting) : Type 0 where
  pub order : s.order ≤ 1
  pub model : s.model ≤ 1

-- service kept by units, and by instances, of a job in period p
pub record ServiceByUnits (job : Job) (p u s v : ℕ) : Type 0 where
  pub u_p : u ≤ p * job.c
  pub s_unused : s ≡ 0
  pub v_unused : v ≡ 0

pub record ServiceByInstances (job : Job) (p u s v : ℕ) : Type 0 where
  pub v_c : v ≤ job.c
  pub s_p : s ≤ p
  pub s_open : v < job.c → s < p
  pub s_full : v ≡ job.c → 1 ≤ s
  pub u_unused : u ≡ 0

-- 'unused counters are 0', and so within m too. With spare on 'the ranges become u ≤ pC, and s loses its m limit' (02)
pub record SoundService (setting : Setting) (job : Job) (p u s v : ℕ) : Type 0 where
  pub u_m : setting.spare ≡ false → u ≤ job.m * job.c
  pub s_m : setting.spare ≡ false → s ≤ job.m
  pub by_units_lem : by_units setting ≡ true → ServiceByUnits job p u s v
  pub by_instances : by_units setting ≡ false → ServiceByInstances job p u s v

pub record SoundPlace (setting : Setting) (q : Place) : Type 0 where
  pub job : SoundJob q.job
  pub e_high : q.at.e < q.job.t
  pub period : Within q.at.p q.job.k
  pub service : SoundService setting q.job q.at.p q.at.u q.at.s q.at.v

-- a place holds a sound job, or none: 'places past the last job are all zero'
pub record Kept (setting : Setting) (q : Place) : Type 0 where
  pub job : Here q → SoundPlace setting q
  pub empty : ¬ Here q → q ≡ blank
