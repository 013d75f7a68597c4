-- A run of many slots: in parts, its length, and what it keeps.
use mathlib.Core.Path.{◌≡◌, refl, ap, ◌∙◌}
use mathlib.Core.List.{[], ◌∷◌, ◌++◌, append_assoc, append-nil}
use Prim.Native.Nat.{ℕ, zero, suc, ◌+◌, ◌-◌, ◌≤◌, ◌<◌}
use native.Mathlib.Nat.{add-zero, add-suc}
use native.Mathlib.Numerals.{add-one}
use native.Mathlib.Omega.{arith}
use lib.ListN.{length, get_or, take, length-append, get_or-append}
use lib.Seq.{get_or_at, take_at}
use borrow.Author.Count.{below_none, below_more}
use Rattle.run.specs.declared.state.State.{State}
use Rattle.run.specs.State.{clock_most}
use Rattle.run.specs.Slot.{turn_of}
use Rattle.run.specs.Sound.{SoundState}
use Rattle.run.specs.Run.{after_slots, choices_of}
use Rattle.run.proofs.KeepLaws.{turn_keeps_sound}
use Rattle.run.proofs.TurnLaws.{next_byte, turn_setting, turn_count, turn_clock}

module _ (s : State) where
  -- one more slot
  pub after_more : (n : ℕ) → after_slots s (n + 1) ≡ (turn_of (after_slots s n)).state
  unfolding after_slots
  after_more n = rw add-one

  pub choices_more : (n : ℕ) → choices_of s (n + 1) ≡ choices_of s n ++ next_byte (after_slots s n) ∷ []
  unfolding choices_of
  choices_more n = rw add-one

  -- n slots, and then m
  pub after_add : (n m : ℕ) → after_slots s (n + m) ≡ after_slots (after_slots s n) m
  unfolding after_slots
  after_add n zero = rw add-zero
  after_add n (suc m) = rw add-suc (ap (λ (x : State). (turn_of x).state) (after_add n m))

  pub choices_add : (n m : ℕ) → choices_of s (n + m) ≡ choices_of s n ++ choices_of (after_slots s n) m
  unfolding choices_of
  choices_add n zero = rw (add-zero, append-nil)
  choices_add n (suc m) = rw (add-suc, choices_add n m, after_add n m, append_assoc)

  pub choices_long : (n : ℕ) → length (choices_of s n) ≡ n
  unfolding choices_of
  choices_long zero = refl
  choices_long (suc n) = length-append (choices_of s n) (next_byte (after_slots s n) ∷ []) ∙ ap (◌+ 1) (choices_long n) ∙ add-one n

  -- what a run leaves as it is, and the clock
  pub after_setting : (n : ℕ) → (after_slots s n).setting ≡ s.setting
  unfolding after_slots
  after_setting zero = refl
  after_setting (suc n) = turn_setting (after_slots s n) ∙ after_setting n

  pub after_count : (n : ℕ) → (after_slots s n).count ≡ s.count
  unfolding after_slots
  after_count zero = refl
  after_count (suc n) = turn_count (after_slots s n) ∙ after_count n

  pub after_clock : (n : ℕ) → (after_slots s n).clock ≡ s.clock + n
  unfolding after_slots
  after_clock zero = omega arith
  after_clock (suc n) = omega (arith, turn_clock (after_slots s n), after_clock n)

  -- the byte of slot i
  pub choice_at : (d n i : ℕ) → i < n → get_or (choices_of s n) i d ≡ next_byte (after_slots s i)
  unfolding choices_of
  choice_at d zero = below_none _
  choice_at d (suc n) =
      rw (← add-one n)
      (below_more (λ (i : ℕ). get_or (choices_of s (suc n)) i d ≡ next_byte (after_slots s i)) n
      (λ i h.
      get_or-append (choices_of s n) (next_byte (after_slots s n) ∷ []) d i (omega (arith, choices_long n))
      ∙ choice_at d n i h)
      (get_or_at (choices_of s n) (next_byte (after_slots s n)) [] d n (choices_long n)))

  -- the first n choices of m
  pub choices_take : (n m : ℕ) → n ≤ m → take n (choices_of s m) ≡ choices_of s n
  choices_take n m h =
      let whole : m ≡ n + (m - n) = omega arith in
      ap (λ (x : ℕ). take n (choices_of s x)) whole
      ∙ ap (take n) (choices_add n (m - n))
      ∙ take_at (choices_of s n) (choices_of (after_slots s n) (m - n)) n (choices_long n)

-- a run of a sound state
module _ (s : State) (sound : SoundState s) where
  pub after_sound : (n : ℕ) → s.clock + n ≤ clock_most → SoundState (after_slots s n)
  unfolding after_slots
  after_sound zero high = sound
  after_sound (suc n) high = turn_keeps_sound (after_slots s n) (after_sound n (omega arith)) (omega (arith, after_clock s n))
