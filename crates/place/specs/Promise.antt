-- What each public operation of `place` promises, by name: the contracts say these names, and promises/specs/Unique speaks of them.
use Rattle.std.specs.Prelude.{◌≡◌, Bool, ℕ}
use Rattle.job.specs.declared.record.Job.{Job}
use Rattle.place.specs.declared.setting.Setting.{Setting}
use Rattle.place.specs.declared.record.Place.{Place}
use Rattle.place.specs.Setting.{setting_of, setting_allowed}
use Rattle.place.specs.Opening.{blank, opened}

-- `Setting::of`, `Setting::allowed`
abbrev pub MadePromise : ℕ → ℕ → Setting → Type 0
MadePromise order model r = r ≡ setting_of order model

abbrev pub AllowedPromise : Setting → Bool → Type 0
AllowedPromise s r = r ≡ setting_allowed s

-- `Place::blank`, `Place::opened`
abbrev pub BlankPromise : Place → Type 0
BlankPromise r = r ≡ blank

abbrev pub OpenedPromise : Job → Place → Type 0
OpenedPromise job r = r ≡ opened job
