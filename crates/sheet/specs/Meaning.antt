-- What a reader may conclude from a read and from a blank sheet: each statement is of whatever result the promise allows, and is proved in proofs/,
-- under its name. Facts are of the bytes and of the values whose text they are (specs/Form): no reader is mentioned.
use Rattle.std.specs.Prelude.{ℕ, ◌+◌, ◌-◌, ◌≤◌, ◌<◌, ◌≡◌, true, false, ◌↔◌, ◌⊎◌, List, [], ◌∷◌, ◌++◌, length, take, replicate, Result, Ok, Err}
use Rattle.job.specs.declared.record.Job.{Job}
use Rattle.job.specs.declared.list.JobList.{JobList}
use Rattle.job.specs.declared.refusal.Refusal.{Refusal}
use Rattle.job.specs.Limit.{count_most}
use Rattle.job.specs.Told.{Told, row, passed, told_checked}
use Rattle.job.specs.Sound.{Within, SoundList, LowestFault}
use Rattle.text.specs.Ascii.{ascii}
use Rattle.place.specs.declared.setting.Setting.{Setting}
use Rattle.place.specs.Setting.{setting_of, with_spare}
use Rattle.sheet.specs.declared.reading.Sheet.{Sheet}
use Rattle.sheet.specs.Form.{bytes_most, slots_most, SheetOf, IsSheet, Begins, form_list}
use Rattle.sheet.specs.Promise.{BlankPromise, ReadPromise}

-- 'Row 13 names the place, counted from 0, of the first byte after which no sheet can continue; the length, if the sheet ends too soon.'
pub record StopsAt (bytes : List ℕ) (place : ℕ) : Type 0 where
  pub begins : Begins (take place bytes)
  pub stops : ((place < length bytes) × (Begins (take (place + 1) bytes) → ⊥)) ⊎ ((place ≡ length bytes) × (IsSheet bytes → ⊥))

-- past 17 and 13: few enough bytes, the text of some values, and a fact of their slot count and their jobs
pub record Formed (bytes : List ℕ) (Fact : ℕ → List Job → Type 0) : Type 0 where
  pub short : length bytes ≤ bytes_most
  pub sheet : IsSheet bytes
  pub fact : Fact sheet.slots sheet.jobs

-- past 16 too: the slot count is allowed, and a fact of the list of jobs
abbrev pub Listed : List ℕ → (JobList → Type 0) → Type 0
Listed bytes Fact = Formed bytes (λ (slots : ℕ) (jobs : List Job). Within slots slots_most × Fact (form_list jobs))

-- the answers that a read has
pub data ReadAnswer : Told → Type 0 where
  passes : ReadAnswer passed
  row_one : ReadAnswer (row 1 [])
  row_two : ReadAnswer (row 2 [])
  job_row : (n i : ℕ) → 3 ≤ n → n ≤ 6 → ReadAnswer (row n (i ∷ []))
  row_thirteen : (place : ℕ) → ReadAnswer (row 13 (place ∷ []))
  row_sixteen : ReadAnswer (row 16 [])
  row_seventeen : ReadAnswer (row 17 [])

-- 'Jobs are written C T m k.'
abbrev pub job : ℕ → ℕ → ℕ → ℕ → Job
job c t m k = record { c = c; t = t; m = m; k = k }

-- a sheet holds the values: the jobs from the first record on, and zeros behind them
pub record Returned (sheet : Sheet) (s : Setting) (slots : ℕ) (jobs : List Job) : Type 0 where
  pub setting_is : sheet.setting ≡ s
  pub slots_is : sheet.slots ≡ slots
  pub count_is : sheet.list.count ≡ length jobs
  pub jobs_are : sheet.list.jobs ≡ jobs ++ replicate (count_most - length jobs) (job 0 0 0 0)

-- a sheet is returned, and holds the values
abbrev pub Reads : Result Sheet Refusal → Setting → ℕ → List Job → Type 0
Reads r s slots jobs = (sheet : Sheet) × ((r ≡ Ok sheet) × Returned sheet s slots jobs)

-- the sheet of all zeros, which `Sheet::blank` gives
pub record AllZeros (sheet : Sheet) : Type 0 where
  pub order : sheet.setting.order ≡ 0
  pub model : sheet.setting.model ≡ 0
  pub spare : sheet.setting.spare ≡ false
  pub slots : sheet.slots ≡ 0
  pub count : sheet.list.count ≡ 0
  pub jobs : sheet.list.jobs ≡ replicate count_most (job 0 0 0 0)

abbrev pub BlankZeros : Type 0
BlankZeros = (r : Sheet) → BlankPromise r → AllZeros r

-- what is told of the bytes, and the sheet that is returned or not. 'Tests 17, 13, 16, 1 to 6.'
pub record ReadTold (bytes : List ℕ) (told : Told) (r : Result Sheet Refusal) : Type 0 where
  -- '17: sheet over 4,096 bytes'
  pub seventeen : (told ≡ row 17 []) ↔ (bytes_most < length bytes)
  -- '13: sheet not of the stated form'
  pub thirteen : (place : ℕ) → (told ≡ row 13 (place ∷ [])) ↔ ((length bytes ≤ bytes_most) × StopsAt bytes place)
  -- '16: sheet's slot count 0 or above 4,096'
  pub sixteen : (told ≡ row 16 []) ↔ Formed bytes (λ (slots : ℕ) (jobs : List Job). (slots ≡ 0) ⊎ (slots_most < slots))
  -- '1: no jobs'
  pub one : (told ≡ row 1 []) ↔ Listed bytes (λ (l : JobList). l.count ≡ 0)
  -- '2: more than 16 jobs'
  pub two : (told ≡ row 2 []) ↔ Listed bytes (λ (l : JobList). count_most < l.count)
  -- '3, 4, 5, 6: T, C, k, m of a job not allowed', naming 'the lowest job at fault, T before C before k before m'
  pub of_job : (n i : ℕ) → n ≤ 6 → (told ≡ row n (i ∷ [])) ↔ Listed bytes (λ (l : JobList). LowestFault l n i)
  -- few enough bytes, of the form, and every number in them within its row of the table
  pub passing : (told ≡ passed) ↔ Listed bytes SoundList
  pub no_other : ReadAnswer told
  pub values : (s : Setting) (slots : ℕ) (jobs : List Job) → SheetOf bytes s slots jobs → told ≡ passed → Reads r s slots jobs
  -- no sheet stands beside a refusal
  pub refused : ¬ (told ≡ passed) → (refusal : Refusal) × (r ≡ Err refusal)

abbrev pub ReadsExactly : Type 0
ReadsExactly = (bytes : List ℕ) (r : Result Sheet Refusal) → ReadPromise bytes r → ReadTold bytes (told_checked r) r

-- document 01's own sheets, which hold specs/Form itself to the letter: case A's 'input lines `W R 6`, `1 2 1 2`, `1 3 2 2`'; B, 'same, V R';
-- D, 'W O'. 'Order 0 is V, 1 is W; model 0 is relaxed, 1 is original.' And case A with document 02's 'optional S'.
abbrev pub ReadsAs : List ℕ → Setting → ℕ → List Job → Type 0
ReadsAs bytes s slots jobs = (r : Result Sheet Refusal) → ReadPromise bytes r → Reads r s slots jobs

abbrev pub CasesRead : Type 0
CasesRead =
    ReadsAs (ascii "W R 6\n1 2 1 2\n1 3 2 2\n") (setting_of 1 0) 6 (job 1 2 1 2 ∷ job 1 3 2 2 ∷ [])
    × ReadsAs (ascii "V R 6\n1 2 1 2\n1 3 2 2\n") (setting_of 0 0) 6 (job 1 2 1 2 ∷ job 1 3 2 2 ∷ [])
    × ReadsAs (ascii "W O 8\n2 4 1 1\n1 2 2 4\n") (setting_of 1 1) 8 (job 2 4 1 1 ∷ job 1 2 2 4 ∷ [])
    × ReadsAs (ascii "W R 6 S\n1 2 1 2\n1 3 2 2\n") (with_spare (setting_of 1 0) true) 6 (job 1 2 1 2 ∷ job 1 3 2 2 ∷ [])

-- row 13's places about the S: a sheet that 'ends too soon' behind the space; a T there, and an S with no space before it, 'after which no sheet
-- can continue'
abbrev pub StopsReadAt : List ℕ → ℕ → Type 0
StopsReadAt bytes place = (r : Result Sheet Refusal) → ReadPromise bytes r → told_checked r ≡ row 13 (place ∷ [])

abbrev pub SpareStops : Type 0
SpareStops = StopsReadAt (ascii "W R 6 ") 6 × StopsReadAt (ascii "W R 6 T") 6 × StopsReadAt (ascii "W R 6S") 5

-- no two texts are the same sheet, and no text is two sheets
abbrev pub TextDetermined : Type 0
TextDetermined =
    (a b : List ℕ) (s : Setting) (slots : ℕ) (jobs : List Job) → SheetOf a s slots jobs → SheetOf b s slots jobs → a ≡ b

abbrev pub ValuesDetermined : Type 0
ValuesDetermined =
    (bytes : List ℕ) (s s' : Setting) (slots slots' : ℕ) (jobs jobs' : List Job) → SheetOf bytes s slots jobs
    → SheetOf bytes s' slots' jobs' → (s ≡ s') × (slots ≡ slots') × (jobs ≡ jobs')
