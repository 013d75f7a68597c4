-- What each entry promises, and `fill` and `below`, by name: the contracts say these names, and promises/specs/Unique speaks of them.
use Rattle.std.specs.Prelude.{◌≡◌, List, ℕ, length, Result, IfOk}
use Rattle.job.specs.declared.list.JobList.{JobList}
use Rattle.job.specs.declared.refusal.Refusal.{Refusal}
use Rattle.job.specs.Told.{passed, told_checked}
use Rattle.place.specs.declared.setting.Setting.{Setting}
use Rattle.place.specs.Setting.{setting_of}
use Rattle.entry.specs.JobBytes.{list_from}
use Rattle.entry.specs.Entry.{whole_jobs, admit_told, fill_told, fill_bytes}
use Rattle.entry.specs.Below.{below_told, below_bytes, below_entry_told, below_entry_bytes}

-- the list that job bytes hold, or row 14
abbrev pub ListFromPromise : List ℕ → Result JobList Refusal → Type 0
ListFromPromise jobs r = (told_checked r ≡ whole_jobs jobs passed) × IfOk r (λ l. l ≡ list_from jobs)

-- `filbertoss_admit`: the number
abbrev pub AdmitEntryPromise : List ℕ → ℕ → ℕ → Type 0
AdmitEntryPromise jobs model r = r ≡ (admit_told jobs model).number

-- `fill`: the answer, and the bytes of the lent buffer before and after
abbrev pub FillPromise : List ℕ → Setting → List ℕ → ℕ → ℕ → Result (Unit {0}) Refusal → List ℕ → Type 0
FillPromise jobs setting before offset n r after =
    (told_checked r ≡ fill_told jobs setting (length before) offset n) × (after ≡ fill_bytes jobs setting before offset n)

-- the same, where the answer's number is returned
abbrev pub FillNumberPromise : List ℕ → Setting → List ℕ → ℕ → ℕ → ℕ → List ℕ → Type 0
FillNumberPromise jobs setting before offset n r after =
    (r ≡ (fill_told jobs setting (length before) offset n).number) × (after ≡ fill_bytes jobs setting before offset n)

-- `filbertoss_fill`: 'the C entry keeps spare off'
abbrev pub FillEntryPromise : List ℕ → ℕ → ℕ → List ℕ → ℕ → ℕ → ℕ → List ℕ → Type 0
FillEntryPromise jobs order model = FillNumberPromise jobs (setting_of order model)

-- `below`: the answer, and the bytes of the lent buffer before and after
abbrev pub BelowPromise : List ℕ → Setting → List ℕ → Result (Unit {0}) Refusal → List ℕ → Type 0
BelowPromise jobs setting before r after =
    (told_checked r ≡ below_told jobs setting (length before)) × (after ≡ below_bytes jobs setting before)

-- the same with spare as a number
abbrev pub BelowSparePromise : List ℕ → ℕ → ℕ → ℕ → List ℕ → Result (Unit {0}) Refusal → List ℕ → Type 0
BelowSparePromise jobs order model spare before r after =
    (told_checked r ≡ below_entry_told jobs order model spare (length before))
    × (after ≡ below_entry_bytes jobs order model spare before)

-- `filbertoss_below`: the answer's number
abbrev pub BelowEntryPromise : List ℕ → ℕ → ℕ → ℕ → List ℕ → ℕ → List ℕ → Type 0
BelowEntryPromise jobs order model spare before r after =
    (r ≡ (below_entry_told jobs order model spare (length before)).number)
    × (after ≡ below_entry_bytes jobs order model spare before)
