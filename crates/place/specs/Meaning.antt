-- What a setting and the two places that are made are, and the test of a setting, whatever result their promises allow. Each statement is proved in
-- proofs/, under its name.
use Rattle.std.specs.Prelude.{◌≡◌, ◌↔◌, Bool, true, false, ℕ}
use Rattle.job.specs.declared.record.Job.{Job}
use Rattle.place.specs.declared.setting.Setting.{Setting}
use Rattle.place.specs.declared.record.Place.{Place}
use Rattle.place.specs.Sound.{Allowed}
use Rattle.place.specs.Promise.{MadePromise, AllowedPromise, BlankPromise, OpenedPromise}

-- a setting of two numbers is these, with spare off, and nothing else
abbrev pub MadeOfBoth : Type 0
MadeOfBoth = (order model : ℕ) (r : Setting) → MadePromise order model r → r ≡ record { order = order; model = model; spare = false }

-- '15: order or model number not 0 or 1'
abbrev pub AllowedAnswers : Type 0
AllowedAnswers = (s : Setting) (r : Bool) → AllowedPromise s r → (r ≡ true) ↔ Allowed s

-- a job's place in period p with no slot gone, no service and no tag
abbrev pub unserved : Job → ℕ → Place
unserved job p = record { job = job; at = record { e = 0; p = p; u = 0; s = 0; v = 0; tag = false } }

-- 'p (period in its window, 1 to k)': a window opens in period 1
abbrev pub OpenedFirst : Type 0
OpenedFirst = (job : Job) (r : Place) → OpenedPromise job r → r ≡ unserved job 1

-- 'places past the last job are all zero'
abbrev pub place_of_zeros : Place
place_of_zeros = unserved (record { c = 0; t = 0; m = 0; k = 0 }) 0

abbrev pub BlankZeros : Type 0
BlankZeros = (r : Place) → BlankPromise r → r ≡ place_of_zeros
