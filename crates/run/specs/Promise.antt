-- What each public operation of `run` promises, by name: the contracts say these names, and promises/specs/Unique speaks of them.
use Rattle.std.specs.Prelude.{ℕ, ◌≡◌, Bool, Result}
use Rattle.job.specs.declared.refusal.Refusal.{Refusal}
use Rattle.job.specs.declared.list.JobList.{JobList}
use Rattle.job.specs.Told.{told_checked}
use Rattle.place.specs.declared.setting.Setting.{Setting}
use Rattle.run.specs.declared.state.State.{State}
use Rattle.run.specs.declared.answer.Started.{Started}
use Rattle.run.specs.declared.answer.Slot.{Slot}
use Rattle.run.specs.State.{zeros, fresh_of}
use Rattle.run.specs.Range.{state_in_range}
use Rattle.run.specs.Choice.{chosen_of}
use Rattle.run.specs.Answer.{told_step}
use Rattle.run.specs.Step.{start_told, start_state, step_told, step_state}

-- `State::zeros`, `State::fresh`, `State::in_range`
abbrev pub ZerosPromise : State → Type 0
ZerosPromise r = r ≡ zeros

abbrev pub FreshPromise : JobList → Setting → State → Type 0
FreshPromise l s r = r ≡ fresh_of l s

abbrev pub InRangePromise : State → Bool → Type 0
InRangePromise s r = r ≡ state_in_range s

-- `CheckedState::choose`: the number of the place chosen, or that of no place
abbrev pub ChoosePromise : State → ℕ → Type 0
ChoosePromise s r = r ≡ chosen_of s

-- `start`; `step`, of a state before it, an answer, and the state after it
abbrev pub StartPromise : JobList → Setting → Started → Type 0
StartPromise l s r = (told_checked r.answer ≡ start_told l s) × (r.state ≡ start_state l s)

abbrev pub StepPromise : State → Result Slot Refusal → State → Type 0
StepPromise s r after = (told_step r ≡ step_told s) × (after ≡ step_state s)
