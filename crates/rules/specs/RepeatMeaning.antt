-- A run repeats itself: where every window ends, each counter and tag is cleared, and only clock and totals differ from the fresh state. Said of
-- what `start` and `step` answer by their promises, in every order and model, spare on or off. Each statement is proved in proofs/, under its name.
use Rattle.std.specs.Prelude.{ℕ, ◌+◌, ◌*◌, ◌<◌, ◌≡◌, List, length, get_or}
use Rattle.std.specs.Int.{◌∣◌}
use Rattle.job.specs.declared.list.JobList.{JobList}
use Rattle.job.specs.Sound.{SoundList}
use Rattle.place.specs.declared.setting.Setting.{Setting}
use Rattle.place.specs.Sound.{Allowed}
use Rattle.run.specs.declared.state.State.{State}
use Rattle.run.specs.declared.answer.Slot.{Slot}
use Rattle.run.specs.Calls.{Run}
use Rattle.rules.specs.Rules.{job_of}
use Rattle.rules.specs.Meaning.{no_slot}

-- h slots are whole windows of every job: the cycle is the least such number above 0, however long
abbrev pub WholeWindows : JobList → ℕ → Type 0
WholeWindows l h = (j : ℕ) → j < l.count → (job_of l j).k * (job_of l j).t ∣ h

-- a run that is h slots longer than another comes to the same places, and its slots from number h on are the other's: the choice, the first tags
-- and the short windows. There are runs up to the clock's limit (`RunExists`)
abbrev pub RunRepeats : Type 0
RunRepeats =
    (l : JobList) (setting : Setting) → SoundList l → Allowed setting → (h : ℕ) → WholeWindows l h → (slots later : List Slot)
    (state after : State) → Run l setting slots state → Run l setting later after → length later ≡ length slots + h
    → (after.places ≡ state.places) × ((n : ℕ) → n < length slots → get_or later (n + h) no_slot ≡ get_or slots n no_slot)
