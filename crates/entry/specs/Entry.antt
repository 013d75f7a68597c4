-- Admission and a fill by job bytes: 'Tests 14, 15, then the rows above; for the fill 12, then 11, come after 6.'
use Rattle.std.specs.Prelude.{ℕ, ◌%◌, cond, List, [], eqb, length}
use Rattle.job.specs.Told.{Told, row}
use Rattle.job.specs.Check.{otherwise}
use Rattle.admission.specs.Verdict.{verdict_told}
use Rattle.place.specs.declared.setting.Setting.{Setting}
use Rattle.run.specs.Step.{start_told, start_state}
use Rattle.timetable.specs.Table.{write_told, write_bytes}
use Rattle.entry.specs.JobBytes.{list_from}

-- '14: job bytes not a multiple of 6', before anything else
unfoldable pub whole_jobs : List ℕ → Told → Told
whole_jobs jobs t = cond (eqb (length jobs % 6) 0) t (row 14 [])

unfoldable pub admit_told : List ℕ → ℕ → Told
admit_told jobs model = whole_jobs jobs (verdict_told (list_from jobs) model)

-- 'another starts a fresh run, writes n choices at an offset as above'
unfoldable pub fill_told : List ℕ → Setting → ℕ → ℕ → ℕ → Told
fill_told jobs setting len offset n =
    whole_jobs jobs
    (otherwise (start_told (list_from jobs) setting) (write_told (start_state (list_from jobs) setting) len offset n))

-- 'A refused .. timetable writes nothing'
unfoldable pub fill_bytes : List ℕ → Setting → List ℕ → ℕ → ℕ → List ℕ
fill_bytes jobs setting bytes offset n =
    cond (eqb (fill_told jobs setting (length bytes) offset n).number 0)
    (write_bytes (start_state (list_from jobs) setting) bytes offset n)
    bytes
