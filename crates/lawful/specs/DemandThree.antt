-- Demand 3: 'A sound list in the relaxed model, cycle at most 16,777,216, is admitted exactly if some lawful, full timetable of one
-- cycle exists; and an admitted list run in window order from slot 0 has no short window up to the clock's limit.'
use Rattle.std.specs.Prelude.{ℕ, ◌≤◌, ◌<◌, length, get_or, ◌≡◌, ◌↔◌, Bool, List}
use Rattle.job.specs.declared.list.JobList.{JobList}
use Rattle.job.specs.Limit.{relaxed, cycle_most}
use Rattle.job.specs.Sound.{SoundList}
use Rattle.admission.specs.Answer.{Admission, admitted_of}
use Rattle.admission.specs.Promise.{VerdictPromise}
use Rattle.admission.specs.Judged.{LeastCommonMultiple}
use Rattle.place.specs.declared.setting.Setting.{Setting}
use Rattle.run.specs.declared.state.State.{State}
use Rattle.run.specs.declared.answer.Slot.{Slot}
use Rattle.run.specs.Calls.{Run, bytes_of}
use Rattle.rules.specs.Meaning.{no_slot}
use Rattle.lawful.specs.Lawful.{Timetable, Lawful, Full}

-- what `verdict` may answer of a list in the relaxed model, by its promise, is an admission
abbrev pub Admits : JobList → Type 0
Admits l = (h : ℕ) × (d : ℕ) × VerdictPromise l relaxed (admitted_of h d)

-- a lawful, full timetable of h slots; below, h is the cycle
pub record CycleTimetable (l : JobList) (h : ℕ) : Type 0 where
  pub bytes : List ℕ
  pub names : Timetable l h bytes
  pub lawful : Lawful l bytes
  pub full : Full l bytes

-- the first half ..
abbrev pub AdmittedExactlyIfTimetable : Type 0
AdmittedExactlyIfTimetable =
    (l : JobList) (h : ℕ) → SoundList l → LeastCommonMultiple l h → h ≤ cycle_most → Admits l ↔ CycleTimetable l h

-- .. and of whatever answer the promise allows
abbrev pub AnswerExactlyIfTimetable : Type 0
AnswerExactlyIfTimetable =
    (l : JobList) (h : ℕ) (r : Admission) → VerdictPromise l relaxed r → SoundList l → LeastCommonMultiple l h → h ≤ cycle_most
    → ((d : ℕ) × (r ≡ admitted_of h d)) ↔ CycleTimetable l h

-- the second half: 'run in window order from slot 0', where 'order .. 1 is W; model 0 is relaxed'. 'Demand 3 holds with it on or off' (02, Item 1)
abbrev pub window_order : Bool → Setting
window_order spare = record { order = 1; model = 0; spare = spare }

-- no slot of a run of an admitted list tells a short window, and none is counted; there are runs up to the clock's limit (`RunExists` of rules)
abbrev pub NeverShort : Type 0
NeverShort =
    (l : JobList) → Admits l → (spare : Bool) (slots : List Slot) (state : State) → Run l (window_order spare) slots state
    → ((n : ℕ) → n < length slots → (get_or slots n no_slot).shorts ≡ 0) × (state.totals.shorts ≡ 0)

-- such a run, of any length, is a lawful timetable in which every ended window is full
abbrev pub RunsLawful : Type 0
RunsLawful =
    (l : JobList) → Admits l → (spare : Bool) (slots : List Slot) (state : State) → Run l (window_order spare) slots state
    → Timetable l (length slots) (bytes_of slots) × Lawful l (bytes_of slots) × Full l (bytes_of slots)
