-- Calls of `step` by their promises: they are the slots of the state that they began with, one after another.
use mathlib.Core.Path.{◌≡◌, refl, sym, ap, ap₂, subst, ◌∙◌}
use mathlib.Core.List.{List, [], ◌∷◌, ◌++◌}
use Prim.Native.Nat.{ℕ, zero, suc, ◌+◌, ◌≤◌, ◌<◌}
use native.Mathlib.Omega.{arith}
use lib.ListN.{length, get_or}
use Rattle.std.specs.Prelude.{Result, Ok}
use Rattle.job.specs.declared.refusal.Refusal.{Refusal}
use Rattle.job.specs.declared.list.JobList.{JobList}
use Rattle.job.specs.Told.{Told, row, told_checked}
use Rattle.job.proofs.ToldLaws.{apart}
use Rattle.place.specs.declared.setting.Setting.{Setting}
use Rattle.run.specs.declared.state.State.{State}
use Rattle.run.specs.declared.answer.Slot.{Slot}
use Rattle.run.specs.State.{clock_most, fresh_of}
use Rattle.run.specs.Slot.{turn_of}
use Rattle.run.specs.Sound.{SoundState}
use Rattle.run.specs.Answer.{byte_of, told_slot, told_step}
use Rattle.run.specs.Step.{step_told}
use Rattle.run.specs.Run.{after_slots, choices_of}
use Rattle.run.specs.Promise.{StepPromise}
use Rattle.run.specs.Calls.{Steps, no_step, a_step, Run, bytes_of}
use Rattle.run.proofs.KeepLaws.{turn_keeps_sound}
use Rattle.run.proofs.StartLaws.{state_passed}
use Rattle.run.proofs.AnswerLaws.{StepView, out_of_range, at_limit, goes_on_lem, step_view, slot_one_to_one, state_done}
use Rattle.run.proofs.TurnLaws.{next_byte, turn_clock}

-- the slots answered from a state on
unfoldable pub answers_of : State → ℕ → List Slot
answers_of s zero = []
answers_of s (suc n) = (turn_of s).slot ∷ answers_of (turn_of s).state n

module _ (s : State) where
  -- the slot first
  pub after_first : (n : ℕ) → after_slots (turn_of s).state n ≡ after_slots s (suc n)
  unfolding after_slots
  after_first zero = refl
  after_first (suc n) = ap (λ (x : State). (turn_of x).state) (after_first n)

  choices_first : (n : ℕ) → choices_of s (suc n) ≡ next_byte s ∷ choices_of (turn_of s).state n
  unfolding choices_of after_slots
  choices_first zero = refl
  choices_first (suc n) = ap₂ (λ (a : List ℕ) (x : State). a ++ next_byte x ∷ []) (choices_first n) (sym (after_first n))

pub bytes_long : (slots : List Slot) → length (bytes_of slots) ≡ length slots
unfolding bytes_of
bytes_long [] = refl
bytes_long (slot ∷ slots) = ap suc (bytes_long slots)

-- what one call does
pub record OneSlot (s : State) (slot : Slot) (next : State) : Type 0 where
  pub sound : SoundState s
  pub below : s.clock < clock_most
  pub slot_is : slot ≡ (turn_of s).slot
  pub state_is : next ≡ (turn_of s).state

pub one_slot :
    {s next : State} {slot : Slot} (r : Result Slot Refusal) → StepPromise s r next → r ≡ Ok slot → OneSlot s slot next
one_slot {s} {next} {slot} r promise done = go (step_view s)
  where
    told : step_told s ≡ row 0 (told_slot slot)
    told = sym promise.0 ∙ ap told_step done

    same : {a b : Slot} → told_step (Ok a) ≡ told_step (Ok b) → a ≡ b
    same {a} {b} e = slot_one_to_one a b (ap (λ (t : Told). t.values) e)

    go : StepView s → OneSlot s slot next
    go (out_of_range broken e) = absurd (apart (sym e ∙ told) refl)
    go (at_limit good last e) = absurd (apart (sym e ∙ told) refl)
    go (goes_on_lem good open_still e) =
        record {
          sound = good;
          below = omega (arith, good.clock_high);
          slot_is = same (sym told ∙ e);
          state_is = promise.1 ∙ state_done s e;
        }

-- what calls in a row do
pub record Slots (s : State) (slots : List Slot) (t : State) : Type 0 where
  pub slots_are : slots ≡ answers_of s (length slots)
  pub bytes_are : bytes_of slots ≡ choices_of s (length slots)
  pub state_is : t ≡ after_slots s (length slots)

pub steps_slots : {s t : State} {slots : List Slot} → Steps s slots t → Slots s slots t
unfolding answers_of bytes_of after_slots choices_of
steps_slots no_step = record { slots_are = refl; bytes_are = refl; state_is = refl }
steps_slots {s} {t} (a_step {slot = slot} {slots = slots} r promise done rest) =
    let one = one_slot r promise done in
    let then = steps_slots rest in
    let n = length slots in
    record {
      slots_are = ap₂ ◌∷◌ one.slot_is (then.slots_are ∙ ap (λ (x : State). answers_of x n) one.state_is);
      bytes_are =
          ap₂ ◌∷◌ (ap (λ (x : Slot). byte_of x.choice) one.slot_is)
          (then.bytes_are ∙ ap (λ (x : State). choices_of x n) one.state_is)
          ∙ sym (choices_first s n);
      state_is = then.state_is ∙ ap (λ (x : State). after_slots x n) one.state_is ∙ after_first s n;
    }

-- the clock says how many there may be
pub steps_clock : {s t : State} {slots : List Slot} → SoundState s → Steps s slots t → s.clock + length slots ≤ clock_most
steps_clock sound no_step = omega (arith, sound.clock_high)
steps_clock {s} sound (a_step {slots = slots} r promise done rest) =
    let one = one_slot r promise done in
    let high : (turn_of s).state.clock + length slots ≤ clock_most =
    subst (λ (x : State). x.clock + length slots ≤ clock_most) one.state_is
    (steps_clock (rw one.state_is (turn_keeps_sound s sound one.below)) rest) in
    omega (arith, turn_clock s)

-- slot i of the slots answered
answer_at : (d : Slot) (s : State) (n i : ℕ) → i < n → get_or (answers_of s n) i d ≡ (turn_of (after_slots s i)).slot
unfolding answers_of after_slots
answer_at d s zero i h = absurd (omega arith)
answer_at d s (suc n) zero h = refl
answer_at d s (suc n) (suc i) h =
    answer_at d (turn_of s).state n i (omega arith) ∙ ap (λ (x : State). (turn_of x).slot) (after_first s i)

-- slot i of calls in a row
pub slots_at : (d : Slot) {s t : State} {slots : List Slot} → Slots s slots t → (i : ℕ) → i < length slots → get_or slots i d ≡ (turn_of (after_slots s i)).slot
slots_at d {s} {t} {slots} called i inside =
    ap (λ (x : List Slot). get_or x i d) called.slots_are ∙ answer_at d s (length slots) i inside

pub answers_long : (s : State) (n : ℕ) → length (answers_of s n) ≡ n
unfolding answers_of
answers_long s zero = refl
answers_long s (suc n) = ap suc (answers_long (turn_of s).state n)

-- while the clock is below its limit, a step of a sound state is done
pub step_done : (s : State) → SoundState s → s.clock < clock_most → step_told s ≡ row 0 (told_slot (turn_of s).slot)
step_done s sound below = go (step_view s)
  where
    go : StepView s → step_told s ≡ row 0 (told_slot (turn_of s).slot)
    go (out_of_range broken e) = absurd (broken sound)
    go (at_limit good last e) = absurd (omega arith)
    go (goes_on_lem good open_still e) = e

-- so calls may go on up to the limit
pub steps_exist :
    (n : ℕ) (s : State) → SoundState s → s.clock + n ≤ clock_most → Steps s (answers_of s n) (after_slots s n)
unfolding answers_of after_slots
steps_exist zero s sound high = no_step
steps_exist (suc n) s sound high =
    let below : s.clock < clock_most = omega arith in
    let told = step_done s sound below in
    subst (Steps s ((turn_of s).slot ∷ answers_of (turn_of s).state n)) (after_first s n)
    (a_step (Ok (turn_of s).slot) (sym told, sym (state_done s told)) refl
    (steps_exist n (turn_of s).state (turn_keeps_sound s sound below) (omega (arith, turn_clock s))))

-- a run is the slots of the list's fresh state
pub run_slots : {l : JobList} {setting : Setting} {slots : List Slot} {state : State} → Run l setting slots state → Slots (fresh_of l setting) slots state
run_slots {l} {setting} {slots} {state} run =
    let passes = sym run.promise.0 ∙ ap told_checked run.passes in
    subst (λ (s : State). Slots s slots state) (run.promise.1 ∙ state_passed l setting passes) (steps_slots run.steps)
