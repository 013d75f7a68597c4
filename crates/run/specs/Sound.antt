-- The ranges of a state as facts: what `inner` asks for, and what the laws use.
use Rattle.std.specs.Prelude.{ℕ, ◌+◌, ◌*◌, ◌≤◌, ◌<◌, ◌≡◌, List, length}
use Rattle.job.specs.Limit.{count_most}
use Rattle.job.specs.Sound.{Within}
use Rattle.place.specs.declared.setting.Setting.{Setting}
use Rattle.place.specs.declared.record.Place.{Place}
use Rattle.place.specs.Opening.{Here}
use Rattle.place.specs.Sound.{Allowed, Kept}
use Rattle.run.specs.declared.state.State.{State}
use Rattle.run.specs.State.{clock_most, sets_most, place_at}

-- the jobs are in the first `count` places, and in no other
pub record SoundPlaces (setting : Setting) (count : ℕ) (places : List Place) : Type 0 where
  pub listed : (i : ℕ) → i < count → Here (place_at places i)
  pub within : (i : ℕ) → Here (place_at places i) → i < count
  pub each : (i : ℕ) → Kept setting (place_at places i)

pub record SoundState (s : State) : Type 0 where
  pub long : length s.places ≡ count_most
  pub setting : Allowed s.setting
  pub clock_high : s.clock ≤ clock_most
  pub count : Within s.count count_most
  pub places : SoundPlaces s.setting s.count s.places
  pub slots : s.totals.given + s.totals.idle ≡ s.clock
  pub tags_high : s.totals.tags ≤ sets_most * s.clock
  pub shorts_high : s.totals.shorts ≤ sets_most * s.clock
