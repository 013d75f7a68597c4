-- What a reader may conclude from the promises of `job`, of whatever result they allow. Each statement is proved in proofs/, under its name.
use Rattle.std.specs.Prelude.{Result, Err, IfOk, ◌≡◌, ◌↔◌, [], ◌∷◌, List, ℕ, ◌<◌, length, get_or}
use Rattle.job.specs.declared.record.Job.{Job}
use Rattle.job.specs.declared.list.JobList.{JobList}
use Rattle.job.specs.declared.refusal.Refusal.{Refusal}
use Rattle.job.specs.Limit.{count_most}
use Rattle.job.specs.Told.{Told, told, told_answer, told_checked, passed, row}
use Rattle.job.specs.Sound.{SoundJob, SoundList, FaultOf, LowestFault}
use Rattle.job.specs.Promise.{NonePromise, JobCheckPromise, EmptyPromise, ListCheckPromise, AnswerNumberPromise, RefusalNumberPromise}

-- an answer is determined by the paper's number and values
abbrev pub RefusalOneToOne : Type 0
RefusalOneToOne = (a b : Refusal) → told a ≡ told b → a ≡ b

-- .. where what is handed back is determined by the values told of it
abbrev pub AnswerOneToOne : Type 1
AnswerOneToOne =
    (A : Type 0) (values : A → List ℕ) → ((x y : A) → values x ≡ values y → x ≡ y) → (a b : Result A Refusal)
    → told_answer values a ≡ told_answer values b → a ≡ b

-- .. as of a check that hands nothing back
abbrev pub CheckedOneToOne : Type 0
CheckedOneToOne = (a b : Result (Unit {0}) Refusal) → told_checked a ≡ told_checked b → a ≡ b

-- .. and two answers that tell the same refuse the same, whatever each hands back
abbrev pub RefusedOneToOne : Type 1
RefusedOneToOne =
    (A B : Type 0) (a : Result A Refusal) (b : Result B Refusal) → told_checked a ≡ told_checked b → (r : Refusal)
    → (a ≡ Err r) ↔ (b ≡ Err r)

-- `Refusal::number`, `number_of`: the row's number, 0 for none
abbrev pub RefusalNumbered : Type 0
RefusalNumbered = (refusal : Refusal) (r : ℕ) → RefusalNumberPromise refusal r → r ≡ (told refusal).number

abbrev pub AnswerNumbered : Type 1
AnswerNumbered =
    (A : Type 0) (values : A → List ℕ) (answer : Result A Refusal) (r : ℕ) → AnswerNumberPromise answer r
    → r ≡ (told_answer values answer).number

abbrev pub CheckedNumbered : Type 0
CheckedNumbered = (checked : Result (Unit {0}) Refusal) (r : ℕ) → AnswerNumberPromise checked r → r ≡ (told_checked checked).number

-- `Job::none`: where no job is, all zeros stand
pub record Zeros (j : Job) : Type 0 where
  pub c : j.c ≡ 0
  pub t : j.t ≡ 0
  pub m : j.m ≡ 0
  pub k : j.k ≡ 0

abbrev pub NoneZeros : Type 0
NoneZeros = (r : Job) → NonePromise r → Zeros r

-- `JobList::empty`: a list of n jobs of which none is put yet, 16 records of zeros
pub record NonePut (n : ℕ) (l : JobList) : Type 0 where
  pub count : l.count ≡ n
  pub long : length l.jobs ≡ count_most
  pub zeros : (i : ℕ) (past : Job) → i < count_most → Zeros (get_or l.jobs i past)

abbrev pub EmptyNonePut : Type 0
EmptyNonePut = (n : ℕ) (r : JobList) → EmptyPromise n r → NonePut n r

-- `Job::check`: what is told of job j, handed over as number `at`
pub record JobRows (at : ℕ) (j : Job) (t : Told) : Type 0 where
  -- it passes exactly if its four numbers are within their rows of the table ..
  pub passes : (t ≡ passed) ↔ SoundJob j
  -- .. and otherwise the first number at fault, 'T before C before k before m', is told, with the job's number
  pub job_row : (n : ℕ) → (t ≡ row n (at ∷ [])) ↔ FaultOf j n

abbrev pub JobChecks : Type 0
JobChecks = (at : ℕ) (j : Job) (r : Result Job Refusal) → JobCheckPromise at j r → JobRows at j (told_checked r) × IfOk r (λ c. c ≡ j)

-- `JobList::check`: what is told of list l
pub record ListRows (l : JobList) (t : Told) : Type 0 where
  -- it passes exactly if every number is within its row of the table
  pub passes : (t ≡ passed) ↔ SoundList l
  -- '1: no jobs'
  pub row_one : (t ≡ row 1 []) ↔ (l.count ≡ 0)
  -- '2: more than 16 jobs'
  pub row_two : (t ≡ row 2 []) ↔ (count_most < l.count)
  -- '3, 4, 5, 6: T, C, k, m of a job not allowed', naming 'the lowest job at fault, T before C before k before m'
  pub job_rows : (n i : ℕ) → (t ≡ row n (i ∷ [])) ↔ LowestFault l n i

abbrev pub ListChecks : Type 0
ListChecks = (l : JobList) (r : Result JobList Refusal) → ListCheckPromise l r → ListRows l (told_checked r) × IfOk r (λ c. c ≡ l)
