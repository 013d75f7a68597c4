-- 'Choose among the eligible jobs.'
use Rattle.std.specs.Prelude.{ℕ, zero, suc, List}
use Rattle.place.specs.declared.setting.Setting.{Setting}
use Rattle.place.specs.declared.record.Place.{Place}
use Rattle.place.specs.declared.inner.choice.Held.{Held}
use Rattle.place.specs.Choice.{nobody, better_of}
use Rattle.run.specs.declared.state.State.{State}
use Rattle.run.specs.State.{place_at}

-- the candidate to choose among the first n places
unfoldable pub held_upto : Setting → List Place → ℕ → Held
held_upto setting places zero = nobody
held_upto setting places (suc n) = better_of setting (held_upto setting places n) n (place_at places n)

-- the number of the place chosen, or of no place
unfoldable pub chosen_of : State → ℕ
chosen_of s = (held_upto s.setting s.places s.count).at
