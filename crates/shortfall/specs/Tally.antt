-- The short windows of a job in the slots of a run, and the slot of the first.
use Rattle.std.specs.Prelude.{ℕ, zero, suc, ◌+◌, ◌≡◌, Bool, false, cond, List, get_or, None, Some}
use Rattle.std.specs.Option.{option_or}
use Rattle.job.specs.Filled.{filled_upto}
use Rattle.run.specs.declared.state.State.{State}
use Rattle.run.specs.State.{place_at}
use Rattle.run.specs.Choice.{chosen_of}
use Rattle.run.specs.Slot.{shorts_at}
use Rattle.run.specs.Run.{after_slots}
use Rattle.shortfall.specs.declared.inner.Tally.{Tally}

-- the slot that a state is before ends a window of job j short
abbrev pub ends_short_in : State → ℕ → Bool
ends_short_in s j = shorts_at s.setting s.places (chosen_of s) j

-- as in the fresh state: no place has a tag
abbrev pub NoTags : State → Type 0
NoTags s = (j : ℕ) → (place_at s.places j).at.tag ≡ false

abbrev pub no_tally : Tally
no_tally = record { short = 0; first = None }

-- one short window more, which ends with slot n: the first, if there was none
unfoldable pub noted_of : Tally → ℕ → Tally
noted_of t n = record { short = t.short + 1; first = option_or t.first (Some n) }

-- job j in the next n slots, numbered from 0
unfoldable pub tally_of : State → ℕ → ℕ → Tally
tally_of s j zero = no_tally
tally_of s j (suc n) = cond (ends_short_in (after_slots s n) j) (noted_of (tally_of s j n) n) (tally_of s j n)

abbrev pub tally_at : List Tally → ℕ → Tally
tally_at tallies i = get_or tallies i no_tally

-- every job
abbrev pub tallies_of : State → ℕ → List Tally
tallies_of s n = filled_upto no_tally (λ j. tally_of s j n) s.count
