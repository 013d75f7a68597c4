-- The form of a sheet, as text that its values make, and the limits of a read: no reader is mentioned.
use Rattle.std.specs.Prelude.{ℕ, ◌≤◌, ◌<◌, ◌≡◌, Bool, cond, List, [], ◌∷◌, ◌++◌, eqb, length}
use Rattle.job.specs.declared.record.Job.{Job}
use Rattle.job.specs.declared.list.JobList.{JobList}
use Rattle.job.specs.Limit.{relaxed, original}
use Rattle.job.specs.Check.{job_at}
use Rattle.text.specs.Ascii.{ascii}
use Rattle.text.specs.Decimal.{decimal_of}
use Rattle.place.specs.declared.setting.Setting.{Setting}
use Rattle.place.specs.Setting.{order_v, order_w}

-- 'Numbers are 0 or up to 5 digits with no leading zero.'
abbrev pub number_most : ℕ
number_most = 99999

-- 'sheet over 4,096 bytes' and 'slot count 0 or above 4,096' are refused
abbrev pub bytes_most : ℕ
bytes_most = 4096

abbrev pub slots_most : ℕ
slots_most = 4096

-- 'First line: V or W, R (relaxed) or O (original), slot count'
abbrev pub order_letter : ℕ → List ℕ
order_letter order = cond (eqb order order_v) (ascii "V") (ascii "W")

abbrev pub model_letter : ℕ → List ℕ
model_letter model = cond (eqb model relaxed) (ascii "R") (ascii "O")

-- 'Sheets gain an optional S after the slot count' (document 02, Item 1)
abbrev pub spare_end : Bool → List ℕ
spare_end spare = cond spare (ascii " S\n") (ascii "\n")

-- 'Single spaces, each line ended by a line feed'
unfoldable pub first_line : Setting → ℕ → List ℕ
first_line s slots =
    order_letter s.order ++ (ascii " " ++ (model_letter s.model ++ (ascii " " ++ (decimal_of slots ++ spare_end s.spare))))

-- 'a line per job, C T m k'
unfoldable pub job_line : Job → List ℕ
job_line j =
    decimal_of j.c
    ++ (ascii " " ++ (decimal_of j.t ++ (ascii " " ++ (decimal_of j.m ++ (ascii " " ++ (decimal_of j.k ++ ascii "\n"))))))

-- 'the form allows any number of job lines, none too'
unfoldable pub job_lines : List Job → List ℕ
job_lines [] = []
job_lines (j ∷ jobs) = job_line j ++ job_lines jobs

-- the jobs of these lines, and how many they are
abbrev pub form_list : List Job → JobList
form_list jobs = record { jobs = jobs; count = length jobs }

pub record SmallJob (j : Job) : Type 0 where
  pub c : j.c ≤ number_most
  pub t : j.t ≤ number_most
  pub m : j.m ≤ number_most
  pub k : j.k ≤ number_most

-- the bytes are the sheet of these values
pub record SheetOf (bytes : List ℕ) (s : Setting) (slots : ℕ) (jobs : List Job) : Type 0 where
  pub order : s.order ≤ order_w
  pub model : s.model ≤ original
  pub slots_small : slots ≤ number_most
  pub jobs_small : (i : ℕ) → i < length jobs → SmallJob (job_at jobs i)
  pub text : bytes ≡ first_line s slots ++ job_lines jobs

-- some sheet
pub record IsSheet (bytes : List ℕ) : Type 0 where
  pub setting : Setting
  pub slots : ℕ
  pub jobs : List Job
  pub is : SheetOf bytes setting slots jobs

-- some sheet begins with the bytes
pub record Begins (bytes : List ℕ) : Type 0 where
  pub rest : List ℕ
  pub sheet : IsSheet (bytes ++ rest)
