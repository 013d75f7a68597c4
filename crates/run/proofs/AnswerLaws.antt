-- What the answer of a step says: the number and the values of document 01 determine it, and when rows 10 and 11 are given.
use mathlib.Core.Path.{◌≡◌, refl, sym, ◌∙◌, ap}
use mathlib.Core.Bool.{Bool, true, false, cond}
use mathlib.Core.Logic.{◌↔◌}
use mathlib.Core.List.{List, [], ◌∷◌}
use Prim.Native.Nat.{ℕ, ◌<◌}
use Rattle.std.specs.Prelude.{Result, Ok, Err}
use native.Mathlib.Omega.{arith}
use lib.Dec.{eqb}
use lib.ListN.{get_or, drop}
use borrow.Author.Tests.{eqb-true, eqb-false, eq-eqb, ne_eqb}
use Rattle.job.specs.declared.refusal.Refusal.{Refusal}
use Rattle.job.specs.declared.refusal.Refusal.TheVariants.{StateOutOfRange, ClockAtLimit}
use Rattle.job.specs.Told.{Told, row}
use Rattle.job.proofs.TestLaws.{clash}
use Rattle.job.proofs.ToldLaws.{one_to_one, answer_one_to_one, apart}
use Rattle.run.specs.declared.state.State.{State}
use Rattle.run.specs.declared.answer.Choice.{Choice}
use Rattle.run.specs.declared.answer.Choice.TheVariants.{Given, Idle}
use Rattle.run.specs.declared.answer.Slot.{Slot}
use Rattle.run.specs.State.{clock_most}
use Rattle.run.specs.Slot.{turn_of}
use Rattle.run.specs.Range.{state_in_range}
use Rattle.run.specs.Sound.{SoundState}
use Rattle.run.specs.Answer.{told_choice, told_slot, told_step}
use Rattle.run.specs.Step.{step_told, step_state}
use Rattle.run.specs.Promise.{StepPromise}
use Rattle.run.specs.Meaning.{StepOneToOne, StepTold, StepAnswers}
use Rattle.run.proofs.RangeLaws.{range_exactly}
use Rattle.run.proofs.KeepLaws.{turn_keeps_sound}

-- the answer read back from its values
choice_back : List ℕ → Choice
choice_back [] = Idle
choice_back (j ∷ js) = Given j

choice_back_lem : (c : Choice) → choice_back (told_choice c) ≡ c
unfolding choice_back
choice_back_lem (Given j) = refl
choice_back_lem Idle = refl

slot_back : List ℕ → Slot
slot_back vs = record { choice = choice_back (drop 2 vs); tags = get_or vs 0 0; shorts = get_or vs 1 0 }

slot_back_lem : (a : Slot) → slot_back (told_slot a) ≡ a
unfolding slot_back
slot_back_lem a = rw (choice_back_lem a.choice)

pub slot_one_to_one : (a b : Slot) → told_slot a ≡ told_slot b → a ≡ b
slot_one_to_one = one_to_one told_slot slot_back slot_back_lem

pub step_one_to_one : StepOneToOne
step_one_to_one = answer_one_to_one Slot told_slot slot_one_to_one

-- a step by its two tests
pub data StepView (s : State) : Type 0 where
  out_of_range : (SoundState s → ⊥) → step_told s ≡ row 10 [] → StepView s
  at_limit : SoundState s → s.clock ≡ clock_most → step_told s ≡ row 11 [] → StepView s
  goes_on_lem : SoundState s → (s.clock ≡ clock_most → ⊥) → step_told s ≡ row 0 (told_slot (turn_of s).slot) → StepView s

pub step_view : (s : State) → StepView s
unfolding step_told
step_view s = go (state_in_range s) (eqb s.clock clock_most) refl refl
  where
    go : (sound last : Bool) → state_in_range s ≡ sound → eqb s.clock clock_most ≡ last → StepView s
    go false last e f = out_of_range (λ h. clash e ((range_exactly s).1 h)) (rw e)
    go true true e f = at_limit ((range_exactly s).0 e) (eqb-true s.clock clock_most f) (rw (e, f))
    go true false e f = goes_on_lem ((range_exactly s).0 e) (eqb-false s.clock clock_most f) (rw (e, f))

row_ten_exactly : (s : State) → (step_told s ≡ row 10 []) ↔ (SoundState s → ⊥)
row_ten_exactly s = go (step_view s)
  where
    go : StepView s → (step_told s ≡ row 10 []) ↔ (SoundState s → ⊥)
    go (out_of_range n e) = (λ _. n, λ _. e)
    go (at_limit h c e) = (λ f. absurd (apart (sym e ∙ f) refl), λ n. absurd (n h))
    go (goes_on_lem h c e) = (λ f. absurd (apart (sym e ∙ f) refl), λ n. absurd (n h))

row_eleven_exactly : (s : State) → (step_told s ≡ row 11 []) ↔ (SoundState s × (s.clock ≡ clock_most))
row_eleven_exactly s = go (step_view s)
  where
    go : StepView s → (step_told s ≡ row 11 []) ↔ (SoundState s × (s.clock ≡ clock_most))
    go (out_of_range n e) = (λ f. absurd (apart (sym e ∙ f) refl), λ h. absurd (n h.0))
    go (at_limit h c e) = (λ _. (h, c), λ _. e)
    go (goes_on_lem h c e) = (λ f. absurd (apart (sym e ∙ f) refl), λ h. absurd (c h.1))

-- the state, by the answer
module _ (s : State) where
  pub state_done : step_told s ≡ row 0 (told_slot (turn_of s).slot) → step_state s ≡ (turn_of s).state
  unfolding step_state
  state_done e = rw e

  state_kept : (n : ℕ) (vs : List ℕ) → step_told s ≡ row n vs → eqb n 0 ≡ false → step_state s ≡ s
  unfolding step_state
  state_kept n vs e f = rw (e, f)

-- what is promised at each test
module _ (s : State) where
  -- whatever the answer, it decides about the state
  promised :
      (r : Result Slot Refusal) → told_step r ≡ step_told s
      → StepPromise s r (cond (eqb (told_step r).number 0) (turn_of s).state s)
  unfolding step_state
  promised r e = (e, ap (λ (t : Told). cond (eqb t.number 0) (turn_of s).state s) e)

  pub refused_ten : state_in_range s ≡ false → StepPromise s (Err StateOutOfRange) s
  unfolding step_told
  refused_ten e = promised (Err StateOutOfRange) (rw e)

  module _ (sound : state_in_range s ≡ true) where
    pub refused_eleven : s.clock ≡ clock_most → StepPromise s (Err ClockAtLimit) s
    unfolding step_told
    refused_eleven last = promised (Err ClockAtLimit) (rw (sound, eq-eqb s.clock clock_most last))

    pub steps_on : (s.clock ≡ clock_most → ⊥) → StepPromise s (Ok (turn_of s).slot) (turn_of s).state
    unfolding step_told
    steps_on below = promised (Ok (turn_of s).slot) (rw (sound, ne_eqb s.clock clock_most below))

pub step_answers : StepAnswers
step_answers s r after promise = go (step_view s)
  where
    ten : (told_step r ≡ row 10 []) ↔ (SoundState s → ⊥)
    ten = rw promise.0 (row_ten_exactly s)

    eleven : (told_step r ≡ row 11 []) ↔ (SoundState s × (s.clock ≡ clock_most))
    eleven = rw promise.0 (row_eleven_exactly s)

    -- a refusal is no slot
    refused : {n : ℕ} → step_told s ≡ row n [] → eqb n 0 ≡ false → (slot : Slot) → r ≡ Ok slot → ⊥
    refused e f slot d = apart (sym e ∙ sym promise.0 ∙ ap told_step d) f

    go : StepView s → StepTold s r after
    go (out_of_range broken e) =
        record {
          row_ten = ten;
          row_eleven = eleven;
          done = (λ d. absurd (refused e refl d.0 d.1), λ h. absurd (broken h.0));
          sound = λ good. absurd (broken good);
          keeps = λ none. promise.1 ∙ state_kept s 10 [] e refl;
        }
    go (at_limit good last e) =
        record {
          row_ten = ten;
          row_eleven = eleven;
          done = (λ d. absurd (refused e refl d.0 d.1), λ h. absurd (omega (arith, h.1)));
          sound = λ _. rw (promise.1 ∙ state_kept s 11 [] e refl) good;
          keeps = λ none. promise.1 ∙ state_kept s 11 [] e refl;
        }
    go (goes_on_lem good below e) =
        let slot_is : r ≡ Ok (turn_of s).slot = step_one_to_one r (Ok (turn_of s).slot) (promise.0 ∙ e) in
        let left : s.clock < clock_most = omega (arith, good.clock_high) in
        record {
          row_ten = ten;
          row_eleven = eleven;
          done = (λ d. (good, left), λ h. ((turn_of s).slot, slot_is));
          sound = λ _. rw (promise.1 ∙ state_done s e) (turn_keeps_sound s good left);
          keeps = λ none. absurd (none (turn_of s).slot slot_is);
        }
