-- Starting a run, and one slot of it, for every input.
use Rattle.std.specs.Prelude.{cond, [], eqb}
use Rattle.job.specs.declared.list.JobList.{JobList}
use Rattle.job.specs.Told.{Told, row}
use Rattle.job.specs.Check.{list_told}
use Rattle.place.specs.declared.setting.Setting.{Setting}
use Rattle.place.specs.Setting.{setting_allowed}
use Rattle.run.specs.declared.state.State.{State}
use Rattle.run.specs.State.{clock_most, zeros, fresh_of}
use Rattle.run.specs.Slot.{turn_of}
use Rattle.run.specs.Range.{state_in_range}
use Rattle.run.specs.Answer.{told_slot}

-- 'a start tests 15, then 1 to 6'
unfoldable pub start_told : JobList → Setting → Told
start_told l s = cond (setting_allowed s) (list_told l) (row 15 [])

-- 'A refused start gives the state of all zeros.'
unfoldable pub start_state : JobList → Setting → State
start_state l s = cond (eqb (start_told l s).number 0) (fresh_of l s) zeros

-- 'A step tests 10, 11'
unfoldable pub step_told : State → Told
step_told s =
    cond (state_in_range s)
    (cond (eqb s.clock clock_most) (row 11 []) (row 0 (told_slot (turn_of s).slot)))
    (row 10 [])

-- 'a state handed in comes back equal', where the step is refused
unfoldable pub step_state : State → State
step_state s = cond (eqb (step_told s).number 0) (turn_of s).state s
