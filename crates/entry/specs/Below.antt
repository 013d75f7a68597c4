-- Which jobs fall below their stated part, in bytes: 12 a job, behind the tests 14, 15, 1 to 6, 8, 12.
use Rattle.std.specs.Prelude.{ℕ, zero, suc, ◌*◌, Bool, cond, List, [], ◌++◌, eqb, ltb, length, get_or, Option, unwrap_or}
use Rattle.job.specs.Told.{Told, row, passed}
use Rattle.job.specs.Check.{otherwise}
use Rattle.text.specs.Word.{word_bytes}
use Rattle.text.specs.Written.{written}
use Rattle.place.specs.declared.setting.Setting.{Setting}
use Rattle.shortfall.specs.declared.answer.Below.{Below}
use Rattle.shortfall.specs.Shortfall.{none_below, shortfall_told, cycle_judged}
use Rattle.entry.specs.JobBytes.{list_from}
use Rattle.entry.specs.Entry.{whole_jobs}

-- the first slot in which a window ends short; for never the clock's limit, a slot that is not run
abbrev pub first_number : Option ℕ → ℕ
first_number first = unwrap_or first 4294967295

-- one job: windows a cycle, short windows a cycle, the first slot, each low byte first
unfoldable pub answer_bytes : Below → List ℕ
answer_bytes a = word_bytes a.windows ++ word_bytes a.short ++ word_bytes (first_number a.first)

-- the first n jobs
unfoldable pub answers_upto : List Below → ℕ → List ℕ
answers_upto jobs zero = []
answers_upto jobs (suc n) = answers_upto jobs n ++ answer_bytes (get_or jobs n none_below)

-- 12: the buffer is shorter than 12 bytes a job
unfoldable pub room_told : ℕ → ℕ → Told
room_told count len = cond (ltb len (count * 12)) (row 12 []) passed

-- 14, then the rows of `shortfall`, then 12
unfoldable pub below_told : List ℕ → Setting → ℕ → Told
below_told jobs setting len =
    whole_jobs jobs (otherwise (shortfall_told (list_from jobs) setting) (room_told (list_from jobs).count len))

-- refused, no byte changes
unfoldable pub below_bytes : List ℕ → Setting → List ℕ → List ℕ
below_bytes jobs setting bytes =
    cond (eqb (below_told jobs setting (length bytes)).number 0)
    (written bytes 0 (answers_upto (cycle_judged (list_from jobs) setting).jobs (list_from jobs).count))
    bytes

-- 15 is also for a spare that is not 0 or 1
abbrev pub strange_spare : ℕ → Bool
strange_spare spare = ltb 1 spare

-- the entry's setting: spare 0 is off, 1 is on
abbrev pub setting_by : ℕ → ℕ → ℕ → Setting
setting_by order model spare = record { order = order; model = model; spare = eqb spare 1 }

unfoldable pub below_entry_told : List ℕ → ℕ → ℕ → ℕ → ℕ → Told
below_entry_told jobs order model spare len =
    whole_jobs jobs (cond (strange_spare spare) (row 15 []) (below_told jobs (setting_by order model spare) len))

unfoldable pub below_entry_bytes : List ℕ → ℕ → ℕ → ℕ → List ℕ → List ℕ
below_entry_bytes jobs order model spare bytes =
    cond (strange_spare spare) bytes (below_bytes jobs (setting_by order model spare) bytes)
