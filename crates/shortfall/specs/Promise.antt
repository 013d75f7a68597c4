-- What the public operation of `shortfall` promises, by name: its contract says the name, and promises/specs/Unique speaks of it.
use Rattle.std.specs.Prelude.{◌≡◌, Result, IfOk}
use Rattle.job.specs.declared.list.JobList.{JobList}
use Rattle.job.specs.declared.refusal.Refusal.{Refusal}
use Rattle.job.specs.Told.{told_checked}
use Rattle.place.specs.declared.setting.Setting.{Setting}
use Rattle.shortfall.specs.declared.answer.Judgement.{Judgement}
use Rattle.shortfall.specs.Shortfall.{shortfall_told, cycle_judged}

-- `shortfall`
abbrev pub ShortfallPromise : JobList → Setting → Result Judgement Refusal → Type 0
ShortfallPromise l setting r = (told_checked r ≡ shortfall_told l setting) × IfOk r (λ j. j ≡ cycle_judged l setting)
