-- What the answers of a start, a step and the states that are made are, for every list, setting and state, whatever result their promises
-- allow. What the slots of a run are stands in the crate `rules`. Each statement is proved in proofs/, under its name.
use Rattle.std.specs.Prelude.{◌≡◌, ◌↔◌, Bool, true, false, [], ℕ, ◌≤◌, ◌<◌, length, get_or, Result, Ok}
use Rattle.job.specs.declared.list.JobList.{JobList}
use Rattle.job.specs.Limit.{count_most}
use Rattle.job.specs.declared.refusal.Refusal.{Refusal}
use Rattle.job.specs.Told.{row, told_checked}
use Rattle.job.specs.Check.{no_job}
use Rattle.job.specs.Sound.{SoundList}
use Rattle.job.specs.Meaning.{ListRows}
use Rattle.place.specs.declared.setting.Setting.{Setting}
use Rattle.place.specs.Sound.{Allowed}
use Rattle.place.specs.Meaning.{unserved, place_of_zeros}
use Rattle.run.specs.declared.state.State.{State}
use Rattle.run.specs.declared.answer.Slot.{Slot}
use Rattle.run.specs.declared.answer.Started.{Started}
use Rattle.run.specs.State.{clock_most}
use Rattle.run.specs.Sound.{SoundState}
use Rattle.run.specs.Answer.{told_step}
use Rattle.run.specs.Promise.{ZerosPromise, FreshPromise, InRangePromise, StartPromise, StepPromise}

-- an answer is determined by the paper's number and values
abbrev pub StepOneToOne : Type 0
StepOneToOne = (a b : Result Slot Refusal) → told_step a ≡ told_step b → a ≡ b

-- 'A state is in its ranges when ..': `State::in_range`
abbrev pub RangeAnswers : Type 0
RangeAnswers = (s : State) (r : Bool) → InRangePromise s r → (r ≡ true) ↔ SoundState s

-- 'the state of all zeros': `State::zeros`
pub record AllZeros (s : State) : Type 0 where
  pub order : s.setting.order ≡ 0
  pub model : s.setting.model ≡ 0
  pub spare : s.setting.spare ≡ false
  pub clock : s.clock ≡ 0
  pub count : s.count ≡ 0
  pub places_long : length s.places ≡ count_most
  pub places : (i : ℕ) → i < count_most → get_or s.places i place_of_zeros ≡ place_of_zeros
  pub given : s.totals.given ≡ 0
  pub idle : s.totals.idle ≡ 0
  pub tags : s.totals.tags ≡ 0
  pub shorts : s.totals.shorts ≡ 0

abbrev pub ZerosAll : Type 0
ZerosAll = (r : State) → ZerosPromise r → AllZeros r

-- 'the fresh state of a list', of any list and setting: every window opens at slot 0. `State::fresh`
pub record Opens (l : JobList) (setting : Setting) (s : State) : Type 0 where
  pub setting_is : s.setting ≡ setting
  pub clock : s.clock ≡ 0
  pub count : s.count ≡ l.count
  pub places_long : length s.places ≡ count_most
  pub places :
      (i : ℕ) → i < l.count → i < count_most → get_or s.places i place_of_zeros ≡ unserved (get_or l.jobs i no_job) 1
  pub others : (i : ℕ) → l.count ≤ i → get_or s.places i place_of_zeros ≡ place_of_zeros
  pub given : s.totals.given ≡ 0
  pub idle : s.totals.idle ≡ 0
  pub tags : s.totals.tags ≡ 0
  pub shorts : s.totals.shorts ≡ 0

abbrev pub FreshOpens : Type 0
FreshOpens = (l : JobList) (s : Setting) (r : State) → FreshPromise l s r → Opens l s r

-- `start`: 'a start tests 15, then 1 to 6'
pub record StartTold (l : JobList) (s : Setting) (r : Started) : Type 0 where
  pub row_fifteen : (told_checked r.answer ≡ row 15 []) ↔ (Allowed s → ⊥)
  pub list_rows : Allowed s → ListRows l (told_checked r.answer)
  pub passes : (r.answer ≡ Ok tt) ↔ (Allowed s × SoundList l)
  pub opens : r.answer ≡ Ok tt → Opens l s r.state
  pub sound : r.answer ≡ Ok tt → SoundState r.state
  -- 'A refused start gives the state of all zeros.'
  pub zeros : (r.answer ≡ Ok tt → ⊥) → AllZeros r.state

abbrev pub StartAnswers : Type 0
StartAnswers = (l : JobList) (s : Setting) (r : Started) → StartPromise l s r → StartTold l s r

-- `step`: 'A step tests 10, 11'
pub record StepTold (s : State) (r : Result Slot Refusal) (after : State) : Type 0 where
  pub row_ten : (told_step r ≡ row 10 []) ↔ (SoundState s → ⊥)
  pub row_eleven : (told_step r ≡ row 11 []) ↔ (SoundState s × (s.clock ≡ clock_most))
  pub done : ((slot : Slot) × (r ≡ Ok slot)) ↔ (SoundState s × (s.clock < clock_most))
  -- row 10 is never given along a run
  pub sound : SoundState s → SoundState after
  -- 'A refused step ..: a state handed in comes back equal.'
  pub keeps : ((slot : Slot) → r ≡ Ok slot → ⊥) → after ≡ s

abbrev pub StepAnswers : Type 0
StepAnswers = (s : State) (r : Result Slot Refusal) (after : State) → StepPromise s r after → StepTold s r after
