-- 'any two results allowed by it are proved equal': for each public operation, whatever its promise allows for one input is one result,
-- one state and one content of the lent bytes. The promises are those that the contracts say, by name.
use Rattle.std.specs.Prelude.{◌≡◌, List, ℕ, Result}
use Rattle.job.specs.declared.record.Job.{Job}
use Rattle.job.specs.declared.list.JobList.{JobList}
use Rattle.job.specs.declared.refusal.Refusal.{Refusal}
use Rattle.job.specs.Promise.{OfPromise, NonePromise, JobCheckPromise, EmptyPromise, ListByPromise, ListOfPromise, ListCheckPromise, WindowPromise, AnswerNumberPromise, RefusalNumberPromise}
use Rattle.admission.specs.Answer.{Admission}
use Rattle.admission.specs.Promise.{CyclePromise, LoadPromise, DivisorPromise, VerdictPromise, AdmitPromise, AdmitFirstPromise}
use Rattle.place.specs.declared.setting.Setting.{Setting}
use Rattle.place.specs.Promise.{MadePromise, AllowedPromise, BlankPromise, OpenedPromise}
use Rattle.run.specs.declared.state.State.{State}
use Rattle.run.specs.declared.state.Totals.{Totals}
use Rattle.run.specs.declared.answer.Slot.{Slot}
use Rattle.run.specs.Promise.{ZerosPromise, FreshPromise, InRangePromise, ChoosePromise, StartPromise, StepPromise}
use Rattle.text.specs.Promise.{EmptyPromise as EmptyTextPromise, SlicePromise, RoomPromise}
use Rattle.timetable.specs.Promise.{WritePromise}
use Rattle.shortfall.specs.declared.answer.Below.{Below}
use Rattle.shortfall.specs.Promise.{ShortfallPromise}
use Rattle.entry.specs.Promise.{AdmitEntryPromise, FillPromise, FillNumberPromise, FillEntryPromise, BelowPromise, BelowEntryPromise}
use Rattle.sheet.specs.Promise.{BlankPromise as BlankSheetPromise, ReadPromise}
use Rattle.lines.specs.Promise.{SlotLinePromise, RefusalLinePromise, AnswerLinePromise, AdmissionLinePromise, TotalsLinePromise, JobLinePromise, FallenLinePromise}

-- a promise about results of one input allows one result
abbrev pub Unique : {A : Type 0} → (A → Type 0) → Type 0
Unique {A} promise = (a b : A) → promise a → promise b → a ≡ b

-- a promise about a result beside what the call leaves of what it was lent, a state or bytes, allows one of each
abbrev pub BothUnique : {A B : Type 0} → (A → B → Type 0) → Type 0
BothUnique {A} {B} promise = (a b : A) (x y : B) → promise a x → promise b y → (a ≡ b) × (x ≡ y)

-- `Job`, `JobList`, `CheckedJob`, `number_of`, `Refusal`; a list by calls, where each call allows one job
pub record JobUnique : Type 1 where
  pub of : (c t m k : ℕ) → Unique (OfPromise c t m k)
  pub none : Unique NonePromise
  pub check : (at : ℕ) (j : Job) → Unique (JobCheckPromise at j)
  pub empty : (count : ℕ) → Unique (EmptyPromise count)
  pub list_by : (answers : ℕ → Job → Type 0) → ((at : ℕ) → Unique (answers at)) → (count : ℕ) → Unique (ListByPromise answers count)
  pub list_of : (jobs : List Job) → Unique (ListOfPromise jobs)
  pub list_check : (l : JobList) → Unique (ListCheckPromise l)
  pub window : (j : Job) → Unique (WindowPromise j)
  pub answer_number : (A : Type 0) (a : Result A Refusal) → Unique (AnswerNumberPromise a)
  pub refusal_number : (r : Refusal) → Unique (RefusalNumberPromise r)

-- `amounts`, `common_divisor`, `verdict`, `admit` on a lent slice of job structs, `admit_first`
pub record AdmissionUnique : Type 0 where
  pub cycle : (a : Admission) → Unique (CyclePromise a)
  pub load : (a : Admission) → Unique (LoadPromise a)
  pub divisor : (a b : ℕ) → Unique (DivisorPromise a b)
  pub verdict : (l : JobList) (model : ℕ) → Unique (VerdictPromise l model)
  pub admit : (jobs : List Job) (model : ℕ) → Unique (AdmitPromise jobs model)
  pub admit_first : (jobs : List Job) (n model : ℕ) → Unique (AdmitFirstPromise jobs n model)

-- `Setting`, `Place`, `State`, `start`, `step`, `shortfall`
pub record RunUnique : Type 0 where
  pub made : (order model : ℕ) → Unique (MadePromise order model)
  pub allowed : (s : Setting) → Unique (AllowedPromise s)
  pub blank : Unique BlankPromise
  pub opened : (j : Job) → Unique (OpenedPromise j)
  pub zeros : Unique ZerosPromise
  pub fresh : (l : JobList) (s : Setting) → Unique (FreshPromise l s)
  pub in_range : (s : State) → Unique (InRangePromise s)
  pub choose : (s : State) → Unique (ChoosePromise s)
  pub start : (l : JobList) (s : Setting) → Unique (StartPromise l s)
  pub step : (s : State) → BothUnique (StepPromise s)
  pub shortfall : (l : JobList) (s : Setting) → Unique (ShortfallPromise l s)

-- `Text`
pub record TextUnique : Type 0 where
  pub empty : Unique EmptyTextPromise
  pub slice : (now : List ℕ) → Unique (SlicePromise now)
  pub room : (most : ℕ) (now : List ℕ) (count : ℕ) → Unique (RoomPromise most now count)

-- `write`, the C entries, `fill` and `below`, `Sheet`, `sheet::read`, the seven lines
pub record BytesUnique : Type 0 where
  pub write :
      (s : State) (before : List ℕ) (offset n : ℕ)
      → BothUnique (λ r (left : State × List ℕ). WritePromise s before offset n r left.0 left.1)
  pub admit_entry : (jobs : List ℕ) (model : ℕ) → Unique (AdmitEntryPromise jobs model)
  pub fill :
      (jobs : List ℕ) (setting : Setting) (before : List ℕ) (offset n : ℕ) → BothUnique (FillPromise jobs setting before offset n)
  pub fill_number :
      (jobs : List ℕ) (setting : Setting) (before : List ℕ) (offset n : ℕ) → BothUnique (FillNumberPromise jobs setting before offset n)
  pub fill_entry :
      (jobs : List ℕ) (order model : ℕ) (before : List ℕ) (offset n : ℕ)
      → BothUnique (FillEntryPromise jobs order model before offset n)
  pub below : (jobs : List ℕ) (setting : Setting) (before : List ℕ) → BothUnique (BelowPromise jobs setting before)
  pub below_entry :
      (jobs : List ℕ) (order model spare : ℕ) (before : List ℕ) → BothUnique (BelowEntryPromise jobs order model spare before)
  pub blank_sheet_lem : Unique BlankSheetPromise
  pub read : (bytes : List ℕ) → Unique (ReadPromise bytes)
  pub slot_line : (number : ℕ) (slot : Slot) → Unique (SlotLinePromise number slot)
  pub refusal_line : (r : Refusal) → Unique (RefusalLinePromise r)
  pub answer_line : (number : ℕ) (a : Result Slot Refusal) → Unique (AnswerLinePromise number a)
  pub admission_line : (a : Admission) → Unique (AdmissionLinePromise a)
  pub totals_line : (t : Totals) → Unique (TotalsLinePromise t)
  pub job_line_lem : (job : ℕ) (below : Below) → Unique (JobLinePromise job below)
  pub fallen_line : (fallen jobs : ℕ) → Unique (FallenLinePromise fallen jobs)
