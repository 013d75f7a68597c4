-- 'A state is in its ranges when ..': row 10, as a test. For one place it stands in place/specs/Range.
use Rattle.std.specs.Prelude.{ℕ, zero, suc, ◌+◌, ◌*◌, Bool, true, ◌&&◌, List, leb, ltb, eqb, length}
use Rattle.job.specs.Limit.{count_most}
use Rattle.job.specs.Check.{allowed}
use Rattle.place.specs.declared.setting.Setting.{Setting}
use Rattle.place.specs.declared.record.Place.{Place}
use Rattle.place.specs.Setting.{setting_allowed}
use Rattle.place.specs.Range.{place_in_range}
use Rattle.run.specs.declared.state.Totals.{Totals}
use Rattle.run.specs.declared.state.State.{State}
use Rattle.run.specs.State.{clock_most, sets_most, place_at}

unfoldable pub places_in_range : Setting → ℕ → List Place → ℕ → Bool
places_in_range setting count places zero = true
places_in_range setting count places (suc n) =
    places_in_range setting count places n && place_in_range setting (ltb n count) (place_at places n)

-- 'given + idle = clock, and each of the other two totals is at most 16 times the clock'
unfoldable pub totals_in_range : ℕ → Totals → Bool
totals_in_range clock t =
    eqb (t.given + t.idle) clock && leb t.tags (sets_most * clock) && leb t.shorts (sets_most * clock)

-- what a state of 16 places is asked for
unfoldable pub values_in_range : State → Bool
values_in_range s =
    setting_allowed s.setting && leb s.clock clock_most && allowed s.count count_most
    && places_in_range s.setting s.count s.places count_most && totals_in_range s.clock s.totals

unfoldable pub state_in_range : State → Bool
state_in_range s = eqb (length s.places) count_most && values_in_range s
