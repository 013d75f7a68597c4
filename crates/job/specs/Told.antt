-- 'Where an answer is an enum, a definition gives this paper's number and values for every one of its cases.'
use Rattle.std.specs.Prelude.{ℕ, List, [], ◌∷◌, Result, Ok, Err}
use Rattle.job.specs.declared.refusal.Refusal.{Refusal}
use Rattle.job.specs.declared.refusal.Refusal.TheVariants.{NoJobs, TooManyJobs, Period, Service, Window, Share, OriginalModel, CycleTooLong, Overload, StateOutOfRange, ClockAtLimit, BufferTooShort, SheetForm, JobBytes, OrderOrModel, SlotCount, SheetTooLong}

-- an answer as the paper puts it: the row's number, 0 for none, and the values that go with it
pub record Told : Type 0 where
  pub number : ℕ
  pub values : List ℕ

abbrev pub row : ℕ → List ℕ → Told
row n vs = record { number = n; values = vs }

-- 'Numbered refusals': rows 3 to 6 name the job, 9 returns cycle and load, 13 names the place
abbrev pub told : Refusal → Told
told NoJobs = row 1 []
told TooManyJobs = row 2 []
told (Period j) = row 3 (j ∷ [])
told (Service j) = row 4 (j ∷ [])
told (Window j) = row 5 (j ∷ [])
told (Share j) = row 6 (j ∷ [])
told OriginalModel = row 7 []
told CycleTooLong = row 8 []
told (Overload h l) = row 9 (h ∷ l ∷ [])
told StateOutOfRange = row 10 []
told ClockAtLimit = row 11 []
told BufferTooShort = row 12 []
told (SheetForm p) = row 13 (p ∷ [])
told JobBytes = row 14 []
told OrderOrModel = row 15 []
told SlotCount = row 16 []
told SheetTooLong = row 17 []

abbrev pub passed : Told
passed = row 0 []

-- an answer that is `Ok` refuses nothing, and tells what is handed back as `values` says
abbrev pub told_answer : {A : Type 0} → (A → List ℕ) → Result A Refusal → Told
told_answer values (Ok a) = row 0 (values a)
told_answer values (Err r) = told r

-- of a check nothing is told but that it passed
abbrev pub told_checked : {A : Type 0} → Result A Refusal → Told
told_checked r = told_answer (λ _. []) r
