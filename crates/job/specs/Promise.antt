-- The promise of each public operation: what its contract says of a result `r`.
use Rattle.std.specs.Prelude.{ℕ, List, ◌≡◌, ◌<◌, ◌≤◌, min, length, Result, IfOk}
use Rattle.job.specs.Limit.{count_most}
use Rattle.job.specs.declared.record.Job.{Job}
use Rattle.job.specs.declared.list.JobList.{JobList}
use Rattle.job.specs.declared.refusal.Refusal.{Refusal}
use Rattle.job.specs.Told.{told, told_checked}
use Rattle.job.specs.Check.{no_job, job_at, job_told, list_told}
use Rattle.job.specs.Filled.{empty_list, list_by}
use Rattle.job.specs.Window.{window_of}

-- `Job::of`, `Job::none`, `Job::check`
pub record OfPromise (c t m k : ℕ) (r : Job) : Type 0 where
  pub slots : r.c ≡ c
  pub period : r.t ≡ t
  pub instances : r.m ≡ m
  pub periods : r.k ≡ k

abbrev pub NonePromise : Job → Type 0
NonePromise r = r ≡ no_job

abbrev pub JobCheckPromise : ℕ → Job → Result Job Refusal → Type 0
JobCheckPromise at j r = (told_checked r ≡ job_told at j) × IfOk r (λ c. c ≡ j)

-- `JobList::empty`, `JobList::check`
abbrev pub EmptyPromise : ℕ → JobList → Type 0
EmptyPromise count r = r ≡ empty_list count

-- `JobList::by`: `job` may be called at the number of each job that is put, and a list by it has what those calls answer
abbrev pub CallableBelow : (ℕ → Type 0) → ℕ → Type 0
CallableBelow callable count = (at : ℕ) → at < min count count_most → callable at

-- 16 records, of which the first n are put
pub record PutUpto (answers : ℕ → Job → Type 0) (n : ℕ) (jobs : List Job) : Type 0 where
  pub long : length jobs ≡ count_most
  pub put : (at : ℕ) → at < n → answers at (job_at jobs at)
  pub past : (at : ℕ) → n ≤ at → job_at jobs at ≡ no_job

abbrev pub ListByPromise : (ℕ → Job → Type 0) → ℕ → JobList → Type 0
ListByPromise answers count r = (r.count ≡ count) × PutUpto answers (min count count_most) r.jobs

-- `JobList::of`: a list of any length, lent
abbrev pub ListOfPromise : List Job → JobList → Type 0
ListOfPromise jobs r = r ≡ list_by (job_at jobs) (length jobs)

abbrev pub ListCheckPromise : JobList → Result JobList Refusal → Type 0
ListCheckPromise l r = (told_checked r ≡ list_told l) × IfOk r (λ c. c ≡ l)

-- `CheckedJob::window`: kT, which is not 0
pub record WindowPromise (j : Job) (r : ℕ) : Type 0 where
  pub value : r ≡ window_of j
  pub some : 0 < r

-- `number_of`, `Refusal::number`
abbrev pub AnswerNumberPromise : {A : Type 0} → Result A Refusal → ℕ → Type 0
AnswerNumberPromise answer r = r ≡ (told_checked answer).number

abbrev pub RefusalNumberPromise : Refusal → ℕ → Type 0
RefusalNumberPromise refusal r = r ≡ (told refusal).number
