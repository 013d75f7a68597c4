-- Which job can fall below its stated part: what `shortfall` answers, whatever result its promise allows, is exact for all time, in the rules' words of
-- what `start` and `step` answer. Each statement is proved in proofs/, under its name.
use Rattle.std.specs.Prelude.{ℕ, ◌*◌, ◌≤◌, ◌<◌, ◌≡◌, ◌↔◌, Bool, true, false, List, [], ltb, length, get_or, Result, Ok, Err, None, Some}
use Rattle.job.specs.declared.list.JobList.{JobList}
use Rattle.job.specs.declared.refusal.Refusal.{Refusal}
use Rattle.job.specs.declared.refusal.Refusal.TheVariants.{Overload}
use Rattle.job.specs.Limit.{count_most, relaxed, cycle_most}
use Rattle.job.specs.Told.{row, told_checked}
use Rattle.job.specs.Sound.{SoundList}
use Rattle.admission.specs.Promise.{VerdictPromise}
use Rattle.admission.specs.Judged.{LeastCommonMultiple}
use Rattle.place.specs.declared.setting.Setting.{Setting}
use Rattle.place.specs.Sound.{Allowed}
use Rattle.run.specs.declared.state.State.{State}
use Rattle.run.specs.declared.answer.Slot.{Slot}
use Rattle.run.specs.declared.answer.Started.{Started}
use Rattle.run.specs.Promise.{StartPromise}
use Rattle.run.specs.Calls.{Run, bytes_of}
use Rattle.run.specs.SlotMeaning.{how_many}
use Rattle.rules.specs.Rules.{job_of, ends_short}
use Rattle.lawful.specs.DemandThree.{Admits, window_order}
use Rattle.shortfall.specs.declared.answer.Below.{Below}
use Rattle.shortfall.specs.declared.answer.Judgement.{Judgement}
use Rattle.shortfall.specs.Promise.{ShortfallPromise}

-- what is said of every run of the list, from a start and as far as the clock goes, by the choices that it answers
abbrev pub OfEveryRun : JobList → Setting → (List ℕ → Type 0) → Type 0
OfEveryRun l setting claim = (slots : List Slot) (state : State) → Run l setting slots state → claim (bytes_of slots)

-- the answer for job j of a list whose cycle is h
pub record JobTold (l : JobList) (setting : Setting) (h j : ℕ) (a : Below) : Type 0 where
  -- 'how many windows a cycle has (H / kT)', with nothing left over
  pub windows : a.windows * ((job_of l j).k * (job_of l j).t) ≡ h
  -- 'never' exactly if no slot up to the clock's limit ends a window of j short
  pub never :
      (a.first ≡ None) ↔ OfEveryRun l setting (λ bytes. (n : ℕ) → n < length bytes → ends_short l setting bytes n j ≡ false)
  -- else the first slot told is the first of all, and it is within the cycle
  pub first :
      (n : ℕ) → a.first ≡ Some n
      → (n < h) × OfEveryRun l setting (λ bytes. n < length bytes → (ends_short l setting bytes n j ≡ true) × ((i : ℕ) → i < n → ends_short l setting bytes i j ≡ false))
  -- in q whole cycles exactly q times the told number of windows are short
  pub cycles :
      (q : ℕ) → OfEveryRun l setting (λ bytes. length bytes ≡ q * h → how_many (λ n. ends_short l setting bytes n j) (length bytes) ≡ q * a.short)

-- past the last job
abbrev pub nothing : Below
nothing = record { windows = 0; short = 0; first = None }

-- the cycle of a list that a start lets pass
pub record CycleIs (l : JobList) (setting : Setting) (h : ℕ) : Type 0 where
  pub allowed : Allowed setting
  pub sound : SoundList l
  pub cycle : LeastCommonMultiple l h

-- the answers for all jobs
pub record JobsTold (l : JobList) (setting : Setting) (a : Judgement) : Type 0 where
  pub long : length a.jobs ≡ count_most
  pub jobs :
      (h : ℕ) → LeastCommonMultiple l h → (j : ℕ) → j < l.count → JobTold l setting h j (get_or a.jobs j nothing)
  pub others : (j : ℕ) → l.count ≤ j → get_or a.jobs j nothing ≡ nothing
  -- how many of the jobs fall below
  pub fallen : a.fallen ≡ how_many (λ j. ltb 0 (get_or a.jobs j nothing).short) count_most

pub record ShortfallTold (l : JobList) (setting : Setting) (r : Result Judgement Refusal) : Type 0 where
  -- 'Refusals: those of a start (15, 1 to 6), then 8'
  pub starts : (s : Started) → StartPromise l setting s → (e : Refusal) → s.answer ≡ Err e → r ≡ Err e
  pub row_eight : (told_checked r ≡ row 8 []) ↔ ((h : ℕ) × CycleIs l setting h × (cycle_most < h))
  pub passes : ((a : Judgement) × (r ≡ Ok a)) ↔ ((h : ℕ) × CycleIs l setting h × (h ≤ cycle_most))
  pub told : (a : Judgement) → r ≡ Ok a → JobsTold l setting a

abbrev pub ShortfallAnswers : Type 0
ShortfallAnswers =
    (l : JobList) (setting : Setting) (r : Result Judgement Refusal) → ShortfallPromise l setting r → ShortfallTold l setting r

-- 'for an admitted list, relaxed, order W, every job is never', spare on or off
abbrev pub AdmittedNever : Type 0
AdmittedNever =
    (l : JobList) → Admits l → (spare : Bool) (r : Result Judgement Refusal) → ShortfallPromise l (window_order spare) r
    → (a : Judgement) × (r ≡ Ok a) × (a.fallen ≡ 0) × ((j : ℕ) → (get_or a.jobs j nothing).first ≡ None)

-- 'for a list that row 9 refuses, relaxed, at least one job is not, whatever the order and spare'
abbrev pub OverFalls : Type 0
OverFalls =
    (l : JobList) (h d : ℕ) → VerdictPromise l relaxed (Err (Overload h d)) → (setting : Setting) → Allowed setting
    → setting.model ≡ 0 → (r : Result Judgement Refusal) → ShortfallPromise l setting r
    → (a : Judgement) × (r ≡ Ok a) × (j : ℕ) × (j < l.count) × ((get_or a.jobs j nothing).first ≡ None → ⊥)
