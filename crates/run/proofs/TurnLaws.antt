-- One slot of a sound state, told by the byte of its choice.
use mathlib.Core.Path.{◌≡◌, refl, sym, ap, ◌∙◌}
use mathlib.Core.Bool.{Bool, true, false, not, cond}
use Prim.Native.Nat.{ℕ, ◌+◌, ◌<◌}
use native.Mathlib.Omega.{arith}
use lib.Dec.{eqb, ltb}
use borrow.Author.Tests.{eqb-true, eqb-false, eq-eqb, ne_eqb, lt-ltb, le-ltb}
use Rattle.place.specs.Place.{moved_of}
use Rattle.place.specs.Choice.{candidate_of, no_place}
use Rattle.run.specs.declared.state.State.{State}
use Rattle.run.specs.declared.answer.Choice.TheVariants.{Given, Idle}
use Rattle.run.specs.State.{place_at}
use Rattle.run.specs.Choice.{chosen_of}
use Rattle.run.specs.Slot.{choice_of, tags_at, shorts_at, count_upto, all_moved, turn_of}
use Rattle.run.specs.Sound.{SoundState}
use Rattle.run.specs.Answer.{byte_of}
use Rattle.run.proofs.ChoiceLaws.{Chosen, given_exactly}
use Rattle.run.proofs.KeepLaws.{turn_place as turn_moved}

-- what the slot leaves as it is, and the clock
module _ (s : State) where
  pub turn_setting : (turn_of s).state.setting ≡ s.setting
  unfolding turn_of
  turn_setting = refl

  pub turn_count : (turn_of s).state.count ≡ s.count
  unfolding turn_of
  turn_count = refl

  pub turn_clock : (turn_of s).state.clock ≡ s.clock + 1
  unfolding turn_of
  turn_clock = refl

test_same : (a b : ℕ) → eqb a b ≡ eqb b a
test_same a b = go (eqb b a) refl
  where
    go : (t : Bool) → eqb b a ≡ t → eqb a b ≡ t
    go true e = eq-eqb a b (sym (eqb-true b a e))
    go false e = ne_eqb a b (λ same. eqb-false b a e (sym same))

-- the byte b of the slot that a state is before: the place chosen, which is a candidate, or idle
pub data Byte (s : State) (b : ℕ) : Type 0 where
  names : b ≡ chosen_of s → b < s.count → candidate_of s.setting (place_at s.places b) ≡ true → Byte s b
  idles : b ≡ byte_of Idle → chosen_of s ≡ no_place → Byte s b

abbrev pub next_byte : State → ℕ
next_byte s = byte_of (turn_of s).slot.choice

module _ (s : State) (sound : SoundState s) where
  pub byte_view : Byte s (next_byte s)
  unfolding turn_of choice_of
  byte_view = go (eqb (chosen_of s) no_place) refl
    where
      go : (t : Bool) → eqb (chosen_of s) no_place ≡ t → Byte s (next_byte s)
      go true e = rw e (idles refl (eqb-true (chosen_of s) no_place e))
      go false e =
          let given : (turn_of s).slot.choice ≡ Given (chosen_of s) = rw e in
          let chosen : Chosen s (chosen_of s) = (given_exactly s sound (chosen_of s)).0 given in
          rw e (names refl chosen.listed chosen.may_be)

  pub byte_given : ltb (next_byte s) s.count ≡ not (eqb (chosen_of s) no_place)
  byte_given = go byte_view
    where
      go : Byte s (next_byte s) → ltb (next_byte s) s.count ≡ not (eqb (chosen_of s) no_place)
      go (names is listed fair) =
          rw (lt-ltb (next_byte s) s.count listed, ne_eqb (chosen_of s) no_place (omega arith))
      go (idles is none) = rw (le-ltb (next_byte s) s.count (omega arith), eq-eqb (chosen_of s) no_place none)

  pub byte_idle : eqb (next_byte s) (byte_of Idle) ≡ eqb (chosen_of s) no_place
  byte_idle = go byte_view
    where
      go : Byte s (next_byte s) → eqb (next_byte s) (byte_of Idle) ≡ eqb (chosen_of s) no_place
      go (names is listed fair) =
          rw (ne_eqb (next_byte s) (byte_of Idle) (omega arith), ne_eqb (chosen_of s) no_place (omega arith))
      go (idles is none) = rw (eq-eqb (next_byte s) (byte_of Idle) is, eq-eqb (chosen_of s) no_place none)

  module _ (i : ℕ) (listed : i < s.count) where
    pub byte_at : eqb (next_byte s) i ≡ eqb i (chosen_of s)
    byte_at = go byte_view
      where
        go : Byte s (next_byte s) → eqb (next_byte s) i ≡ eqb i (chosen_of s)
        go (names is below fair) = ap (λ (x : ℕ). eqb x i) is ∙ test_same (chosen_of s) i
        go (idles is none) = rw (ne_eqb (next_byte s) i (omega arith), ne_eqb i (chosen_of s) (omega arith))

    pub byte_fair : eqb (next_byte s) i ≡ true → candidate_of s.setting (place_at s.places i) ≡ true
    byte_fair e = go byte_view
      where
        same : next_byte s ≡ i
        same = eqb-true (next_byte s) i e

        go : Byte s (next_byte s) → candidate_of s.setting (place_at s.places i) ≡ true
        go (names is below fair) = rw (← same) fair
        go (idles is none) = absurd (omega (arith, same))

  -- the totals and the places after the slot
  pub turn_given :
      (turn_of s).state.totals.given ≡ cond (ltb (next_byte s) s.count) (s.totals.given + 1) s.totals.given
  unfolding turn_of
  turn_given = rw byte_given

  pub turn_idle :
      (turn_of s).state.totals.idle ≡ cond (eqb (next_byte s) (byte_of Idle)) (s.totals.idle + 1) s.totals.idle
  unfolding turn_of
  turn_idle = rw byte_idle

  pub turn_tags :
      (turn_of s).state.totals.tags
      ≡ s.totals.tags + count_upto (tags_at s.setting s.places (chosen_of s)) s.count
  unfolding turn_of all_moved
  turn_tags = refl

  pub turn_shorts :
      (turn_of s).state.totals.shorts
      ≡ s.totals.shorts + count_upto (shorts_at s.setting s.places (chosen_of s)) s.count
  unfolding turn_of all_moved
  turn_shorts = refl

  pub turn_place :
      (i : ℕ) → i < s.count
      → place_at (turn_of s).state.places i ≡ (moved_of s.setting (place_at s.places i) (eqb (next_byte s) i)).place
  turn_place i listed = rw (byte_at i listed) (turn_moved s sound i listed)
