-- What a user does with a run: a start, and then calls of `step`, each of the state that the call before it left. Nothing is known of
-- the calls but their promises.
use Rattle.std.specs.Prelude.{◌≡◌, List, [], ◌∷◌, ℕ, Result, Ok}
use Rattle.job.specs.declared.refusal.Refusal.{Refusal}
use Rattle.job.specs.declared.list.JobList.{JobList}
use Rattle.place.specs.declared.setting.Setting.{Setting}
use Rattle.run.specs.declared.state.State.{State}
use Rattle.run.specs.declared.answer.Slot.{Slot}
use Rattle.run.specs.declared.answer.Started.{Started}
use Rattle.run.specs.Answer.{byte_of}
use Rattle.run.specs.Promise.{StartPromise, StepPromise}

-- calls of `step` from one state to another, and the slots that they answer
pub data Steps : State → List Slot → State → Type 0 where
  no_step : {s : State} → Steps s [] s
  a_step :
      {s next t : State} {slot : Slot} {slots : List Slot} (r : Result Slot Refusal) → StepPromise s r next → r ≡ Ok slot
      → Steps next slots t → Steps s (slot ∷ slots) t

-- a run of a list: a start that passes, and the steps from there
pub record Run (l : JobList) (setting : Setting) (slots : List Slot) (state : State) : Type 0 where
  pub started : Started
  pub promise : StartPromise l setting started
  pub passes : started.answer ≡ Ok tt
  pub steps : Steps started.state slots state

-- the choices of slots, 'one byte each, 0 to 15 or 255 for idle'
unfoldable pub bytes_of : List Slot → List ℕ
bytes_of [] = []
bytes_of (slot ∷ slots) = byte_of slot.choice ∷ bytes_of slots
