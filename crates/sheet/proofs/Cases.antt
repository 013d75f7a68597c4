-- Document 01's own sheets and those about the S, read by the definitions.
use mathlib.Core.Path.{◌≡◌, refl, ◌∙◌, ap}
use mathlib.Core.Bool.{true}
use mathlib.Core.List.{List, [], ◌∷◌}
use Prim.Native.Nat.{ℕ, ◌-◌}
use lib.ListN.{length}
use Rattle.std.specs.Prelude.{Ok}
use Rattle.job.specs.declared.record.Job.{Job}
use Rattle.job.specs.Limit.{count_most}
use Rattle.job.specs.Told.{passed}
use Rattle.job.specs.Check.{job_told, otherwise, jobs_told, list_told}
use Rattle.text.specs.Ascii.{ascii}
use Rattle.place.specs.declared.setting.Setting.{Setting}
use Rattle.place.specs.Setting.{setting_of, with_spare}
use Rattle.sheet.specs.declared.reading.Sheet.{Sheet}
use Rattle.sheet.specs.Sheet.{sheet_told}
use Rattle.sheet.specs.Reader.{sheet_of, own_byte, fits_of, value_after, pushed_of, stored_of, advanced_of, reader_upto, fits_upto, place_upto}
use Rattle.sheet.specs.Answer.{form_told, read_told, read_sheet}
use Rattle.sheet.specs.Meaning.{job, ReadsAs, CasesRead, SpareStops}
use Rattle.sheet.proofs.PushedLaws.{padded}
use Rattle.sheet.proofs.ReadLaws.{reads_ok}

-- the sheet of the values
abbrev sheet_with_jobs : Setting → ℕ → List Job → Sheet
sheet_with_jobs s slots jobs =
    sheet_of s slots (padded jobs (count_most - length jobs))

reads_as :
    (bytes : List ℕ) (s : Setting) (slots : ℕ) (jobs : List Job) → read_told bytes ≡ passed → read_sheet bytes ≡ sheet_with_jobs s slots jobs
    → ReadsAs bytes s slots jobs
reads_as bytes s slots jobs told is r promise = (
  sheet_with_jobs s slots jobs,
  (reads_ok bytes r promise told ∙ ap Ok is, record { setting_is = refl; slots_is = refl; count_is = refl; jobs_are = refl }),
)

pub cases_read : CasesRead
unfolding job_told otherwise jobs_told list_told sheet_told own_byte fits_of value_after pushed_of stored_of advanced_of reader_upto fits_upto form_told read_told
cases_read = (
  reads_as (ascii "W R 6\n1 2 1 2\n1 3 2 2\n") (setting_of 1 0) 6 (job 1 2 1 2 ∷ job 1 3 2 2 ∷ []) refl refl,
  reads_as (ascii "V R 6\n1 2 1 2\n1 3 2 2\n") (setting_of 0 0) 6 (job 1 2 1 2 ∷ job 1 3 2 2 ∷ []) refl refl,
  reads_as (ascii "W O 8\n2 4 1 1\n1 2 2 4\n") (setting_of 1 1) 8 (job 2 4 1 1 ∷ job 1 2 2 4 ∷ []) refl refl,
  reads_as (ascii "W R 6 S\n1 2 1 2\n1 3 2 2\n") (with_spare (setting_of 1 0) true) 6 (job 1 2 1 2 ∷ job 1 3 2 2 ∷ []) refl refl,
)

pub spare_stops : SpareStops
unfolding otherwise own_byte fits_of value_after stored_of advanced_of reader_upto fits_upto place_upto form_told read_told
spare_stops = (λ r promise. promise.0, λ r promise. promise.0, λ r promise. promise.0)
