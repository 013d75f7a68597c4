-- A slot looks at the setting, the count and the places alone: states that differ in clock and totals answer alike, slot after slot.
use mathlib.Core.Path.{◌≡◌, refl}
use mathlib.Core.List.{List}
use Prim.Native.Nat.{ℕ, zero, suc}
use Rattle.place.specs.declared.setting.Setting.{Setting}
use Rattle.place.specs.declared.record.Place.{Place}
use Rattle.run.specs.declared.state.State.{State}
use Rattle.run.specs.declared.answer.Slot.{Slot}
use Rattle.run.specs.Choice.{held_upto, chosen_of}
use Rattle.run.specs.Slot.{choice_of, shorts_at, all_moved, turn_of}
use Rattle.run.specs.Run.{after_slots}
use Rattle.run.proofs.TurnLaws.{turn_setting, turn_count}

pub record Alike (s t : State) : Type 0 where
  pub setting : s.setting ≡ t.setting
  pub count : s.count ≡ t.count
  pub places : s.places ≡ t.places

-- the slot and the places after it, by what it looks at
unfoldable answer_by : Setting → ℕ → List Place → Slot
answer_by setting count places =
    let at = (held_upto setting places count).at in
    let all = all_moved setting places count at in
    record { choice = choice_of at; tags = all.tags; shorts = all.shorts }

unfoldable places_by : Setting → ℕ → List Place → List Place
places_by setting count places = (all_moved setting places count (held_upto setting places count).at).places

module _ (s : State) where
  slot_by : (turn_of s).slot ≡ answer_by s.setting s.count s.places
  unfolding turn_of chosen_of answer_by
  slot_by = refl

  places_by_lem : (turn_of s).state.places ≡ places_by s.setting s.count s.places
  unfolding turn_of chosen_of places_by
  places_by_lem = refl

  chosen_by : chosen_of s ≡ (held_upto s.setting s.places s.count).at
  unfolding chosen_of
  chosen_by = refl

module _ (s t : State) (same : Alike s t) where
  pub alike_short : (i : ℕ) → shorts_at s.setting s.places (chosen_of s) i ≡ shorts_at t.setting t.places (chosen_of t) i
  alike_short i = cc (chosen_by s, chosen_by t, same.setting, same.count, same.places)

  pub alike_slot : (turn_of s).slot ≡ (turn_of t).slot
  alike_slot = cc (slot_by s, slot_by t, same.setting, same.count, same.places)

  pub alike_next : Alike (turn_of s).state (turn_of t).state
  alike_next =
      record {
        setting = cc (turn_setting s, turn_setting t, same.setting);
        count = cc (turn_count s, turn_count t, same.count);
        places = cc (places_by_lem s, places_by_lem t, same.setting, same.count, same.places);
      }

pub alike_after : (s t : State) → Alike s t → (n : ℕ) → Alike (after_slots s n) (after_slots t n)
unfolding after_slots
alike_after s t same zero = same
alike_after s t same (suc n) = alike_next (after_slots s n) (after_slots t n) (alike_after s t same n)
