-- What the entries for admission and for a fill, and `fill`, return and leave, whatever their promises allow. Each statement is proved in proofs/, under its name.
use Rattle.std.specs.Prelude.{ℕ, ◌+◌, ◌*◌, ◌%◌, ◌≤◌, ◌<◌, ◌≡◌, ◌↔◌, false, List, length, get_or, take, drop, Result, Err}
use Rattle.job.specs.declared.record.Job.{Job}
use Rattle.job.specs.declared.list.JobList.{JobList}
use Rattle.job.specs.Limit.{count_most}
use Rattle.job.specs.declared.refusal.Refusal.{Refusal}
use Rattle.job.specs.Told.{Told, told, told_checked}
use Rattle.job.specs.Check.{no_job}
use Rattle.job.specs.Sound.{SoundList}
use Rattle.job.specs.Promise.{ListCheckPromise}
use Rattle.admission.specs.Answer.{Admission, told_admission}
use Rattle.admission.specs.Promise.{VerdictPromise}
use Rattle.place.specs.declared.setting.Setting.{Setting}
use Rattle.place.specs.Sound.{Allowed}
use Rattle.run.specs.declared.state.State.{State}
use Rattle.run.specs.declared.answer.Slot.{Slot}
use Rattle.run.specs.State.{clock_most}
use Rattle.run.specs.Calls.{Run, bytes_of}
use Rattle.timetable.specs.Meaning.{Stays}
use Rattle.entry.specs.Promise.{AdmitEntryPromise, FillPromise, FillNumberPromise, FillEntryPromise}

-- 'C and T (16 bits, low byte first), m, k': job j stands in the six bytes from `at` on
pub record JobStands (bytes : List ℕ) (at : ℕ) (j : Job) : Type 0 where
  pub c_is : j.c ≡ get_or bytes at 0 + 256 * get_or bytes (at + 1) 0
  pub t_is : j.t ≡ get_or bytes (at + 2) 0 + 256 * get_or bytes (at + 3) 0
  pub m_is : j.m ≡ get_or bytes (at + 4) 0
  pub k_is : j.k ≡ get_or bytes (at + 5) 0

-- 'job bytes, 6 a job': the bytes are those of the list, as far as its 16 records reach
pub record BytesOfList (bytes : List ℕ) (l : JobList) : Type 0 where
  pub whole : length bytes ≡ l.count * 6
  pub each : (i : ℕ) → i < l.count → i < count_most → JobStands bytes (i * 6) (get_or l.jobs i no_job)

-- bytes of whole jobs are those of some list
abbrev pub Whole : List ℕ → Type 0
Whole bytes = length bytes % 6 ≡ 0

abbrev pub WholeExactly : Type 0
WholeExactly = (bytes : List ℕ) → Whole bytes ↔ ((l : JobList) × BytesOfList bytes l)

-- `filbertoss_admit`: '14: job bytes not a multiple of 6'; otherwise it answers as `verdict` does on the list
pub record AdmitEntryTold (jobs : List ℕ) (model r : ℕ) : Type 0 where
  pub row_fourteen : (r ≡ 14) ↔ (Whole jobs → ⊥)
  pub judges : (l : JobList) → BytesOfList jobs l → (a : Admission) → VerdictPromise l model a → r ≡ (told_admission a).number

abbrev pub AdmitEntryAnswers : Type 0
AdmitEntryAnswers = (jobs : List ℕ) (model r : ℕ) → AdmitEntryPromise jobs model r → AdmitEntryTold jobs model r

-- a fresh run starts: rows 15 and 1 to 6 are not given
pub record Starts (l : JobList) (s : Setting) : Type 0 where
  pub allowed : Allowed s
  pub sound : SoundList l

-- 'another starts a fresh run, writes n choices at an offset as above': the choices are those of a run of the list
pub record FillsRun (l : JobList) (s : Setting) (before : List ℕ) (offset n : ℕ) (after : List ℕ) : Type 0 where
  pub slots : List Slot
  pub state : State
  pub long : length slots ≡ n
  pub run : Run l s slots state
  pub choices : take n (drop offset after) ≡ bytes_of slots
  pub stays : Stays before after offset n

-- a fill of the bytes of a list, by what its answer tells: 'Tests 14, 15, then the rows above; for the fill 12, then 11, come after 6.'
pub record FillTold (l : JobList) (s : Setting) (before : List ℕ) (offset n : ℕ) (t : Told) (after : List ℕ) : Type 0 where
  pub row_fifteen : (t.number ≡ 15) ↔ (Allowed s → ⊥)
  -- rows 1 to 6, as `JobList::check` gives them
  pub list_rows : Allowed s → (refusal : Refusal) → ListCheckPromise l (Err refusal) → t ≡ told refusal
  -- '12 (offset + n above the length), 11 (clock + n above its limit)', from slot 0
  pub row_twelve : (t.number ≡ 12) ↔ (Starts l s × (length before < offset + n))
  pub row_eleven : (t.number ≡ 11) ↔ (Starts l s × (offset + n ≤ length before) × (clock_most < n))
  pub passes : (t.number ≡ 0) ↔ (Starts l s × (offset + n ≤ length before) × (n ≤ clock_most))
  pub runs : t.number ≡ 0 → FillsRun l s before offset n after
  -- 'A refused .. timetable writes nothing'
  pub keeps : (t.number ≡ 0 → ⊥) → after ≡ before

-- `fill`, in any setting
abbrev pub FillAnswers : Type 0
FillAnswers =
    (jobs : List ℕ) (l : JobList) → BytesOfList jobs l → (s : Setting) (before : List ℕ) (offset n : ℕ)
    (r : Result (Unit {0}) Refusal) (after : List ℕ)
    → FillPromise jobs s before offset n r after → FillTold l s before offset n (told_checked r) after

-- '14: job bytes not a multiple of 6'
abbrev pub FillRowFourteen : Type 0
FillRowFourteen =
    (jobs : List ℕ) (s : Setting) (before : List ℕ) (offset n : ℕ) (r : Result (Unit {0}) Refusal) (after : List ℕ)
    → FillPromise jobs s before offset n r after
    → (((told_checked r).number ≡ 14) ↔ (Whole jobs → ⊥)) × ((told_checked r).number ≡ 14 → after ≡ before)

-- where a number is returned, it is that of an answer of `fill`
abbrev pub FillNumbers : Type 0
FillNumbers =
    (jobs : List ℕ) (s : Setting) (before : List ℕ) (offset n r : ℕ) (after : List ℕ)
    → FillNumberPromise jobs s before offset n r after
    → (answer : Result (Unit {0}) Refusal) × FillPromise jobs s before offset n answer after × (r ≡ (told_checked answer).number)

-- `filbertoss_fill` is `fill` in that order and model, and 'the C entry keeps spare off' (02, Item 1)
abbrev pub EntryFills : Type 0
EntryFills =
    (jobs : List ℕ) (order model : ℕ) (before : List ℕ) (offset n r : ℕ) (after : List ℕ)
    → FillEntryPromise jobs order model before offset n r after
    → FillNumberPromise jobs (record { order = order; model = model; spare = false }) before offset n r after
