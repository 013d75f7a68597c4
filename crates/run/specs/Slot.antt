-- One slot of a state in its ranges.
use Rattle.std.specs.Prelude.{ℕ, zero, suc, ◌+◌, ◌^◌, Bool, not, cond, List, eqb, set}
use Rattle.place.specs.declared.setting.Setting.{Setting}
use Rattle.place.specs.declared.record.Place.{Place}
use Rattle.place.specs.declared.inner.service.Outcome.{Outcome}
use Rattle.place.specs.Place.{moved_of}
use Rattle.place.specs.Choice.{no_place}
use Rattle.run.specs.declared.state.Totals.{Totals}
use Rattle.run.specs.declared.state.State.{State}
use Rattle.run.specs.declared.answer.Choice.{Choice}
use Rattle.run.specs.declared.answer.Choice.TheVariants.{Given, Idle}
use Rattle.run.specs.declared.inner.slot.Turned.{Turned}
use Rattle.run.specs.declared.inner.slot.Outcomes.{Outcomes}
use Rattle.run.specs.State.{place_at}
use Rattle.run.specs.Choice.{chosen_of}

-- 'the choice, a job or idle'
unfoldable pub choice_of : ℕ → Choice
choice_of at = cond (eqb at no_place) Idle (Given at)

-- what the slot makes of place i where the place `at` is chosen
abbrev pub moved_at : Setting → List Place → ℕ → ℕ → Outcome
moved_at setting places at i = moved_of setting (place_at places i) (eqb i at)

-- the first n places moved on
unfoldable pub places_upto : Setting → List Place → ℕ → ℕ → List Place
places_upto setting places at zero = places
places_upto setting places at (suc n) = set (places_upto setting places at n) n (moved_at setting places at n).place

-- the set of those i below n of which f holds, as a mask, and how many they are
unfoldable pub mask_upto : (ℕ → Bool) → ℕ → ℕ
mask_upto f zero = 0
mask_upto f (suc n) = cond (f n) (mask_upto f n + 2 ^ n) (mask_upto f n)

unfoldable pub count_upto : (ℕ → Bool) → ℕ → ℕ
count_upto f zero = 0
count_upto f (suc n) = cond (f n) (count_upto f n + 1) (count_upto f n)

-- 'the set of jobs first tagged in their window and the set whose window ended short'
abbrev pub tags_at : Setting → List Place → ℕ → ℕ → Bool
tags_at setting places at i = (moved_at setting places at i).tagged

abbrev pub shorts_at : Setting → List Place → ℕ → ℕ → Bool
shorts_at setting places at i = (moved_at setting places at i).short

unfoldable pub all_moved : Setting → List Place → ℕ → ℕ → Outcomes
all_moved setting places count at =
    record {
      places = places_upto setting places at count;
      tags = mask_upto (tags_at setting places at) count;
      shorts = mask_upto (shorts_at setting places at) count;
      tagged = count_upto (tags_at setting places at) count;
      short = count_upto (shorts_at setting places at) count;
    }

-- 'Totals in the state: slots given, idle, first tags, short windows': one more slot, with the sizes of its two sets
abbrev pub counted_of : Totals → Bool → ℕ → ℕ → Totals
counted_of t idle tagged short =
    record {
      given = cond (not idle) (t.given + 1) t.given;
      idle = cond idle (t.idle + 1) t.idle;
      tags = t.tags + tagged;
      shorts = t.shorts + short;
    }

-- the answer and the state after the slot
unfoldable pub turn_of : State → Turned
turn_of s =
    let at = chosen_of s in
    let all = all_moved s.setting s.places s.count at in
    record {
      slot = record { choice = choice_of at; tags = all.tags; shorts = all.shorts };
      state =
          record {
            setting = s.setting;
            clock = s.clock + 1;
            count = s.count;
            places = all.places;
            totals = counted_of s.totals (eqb at no_place) all.tagged all.short;
          };
    }
