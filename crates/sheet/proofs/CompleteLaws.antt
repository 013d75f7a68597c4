-- The text of small values is read to its end, and leaves those values in the reader.
use mathlib.Core.Path.{◌≡◌, refl, ◌∙◌, ap, subst}
use mathlib.Core.Bool.{Bool, true, false}
use mathlib.Core.List.{List, [], ◌∷◌}
use mathlib.Core.Logic.{◌⊎◌, inl, inr}
use Prim.Native.Nat.{ℕ, zero, suc, ◌+◌, ◌-◌, ◌*◌, ◌≤◌, ◌<◌}
use native.Mathlib.Omega.{arith}
use lib.ListN.{length, length-append}
use Rattle.job.specs.declared.record.Job.{Job}
use Rattle.job.specs.Limit.{original}
use Rattle.job.specs.Check.{no_job, job_at}
use Rattle.text.specs.Decimal.{decimal_of}
use Rattle.place.specs.declared.setting.Setting.{Setting}
use Rattle.place.specs.Setting.{order_w, setting_of, with_spare}
use Rattle.sheet.specs.declared.reading.Sheet.{Sheet}
use Rattle.sheet.specs.declared.reader.Field.{Field}
use Rattle.sheet.specs.declared.reader.Field.TheVariants.{Order, Model, Slots, Spare, C, T, M, K}
use Rattle.sheet.specs.declared.reader.Reader.{Reader}
use Rattle.sheet.specs.Form.{number_most, order_letter, model_letter, spare_end, first_line, job_line, job_lines, SmallJob, SheetOf}
use Rattle.sheet.specs.Sheet.{blank_sheet}
use Rattle.sheet.specs.Reader.{start_reader, letter_field, fits_of, own_byte, value_after, advanced_of, end_byte, sheet_of, pushed_of, stored_of}
use Rattle.text.proofs.DecimalLaws.{by_digits, decimal_one, decimal_more, decimal_some, decimal_length}
use Rattle.sheet.proofs.ByteLaws.{reader_at, number_own, number_value, usual_ends, own_fits, own_leaves, end_fits, end_leaves}
use Rattle.sheet.proofs.PushedLaws.{pushed_all, last_job}
use Rattle.sheet.proofs.RunLaws.{Runs, no_bytes, one_byte, ◌then◌}

-- one field
module _ (job : Job) (sheet : Sheet) where
  digit_run :
      (field : Field) (digits value d : ℕ) → letter_field field ≡ false → d < 10 → (digits ≡ 0) ⊎ ((0 < value) × (digits < 5))
      → Runs (reader_at field digits value job sheet) ((48 + d) ∷ []) (reader_at field (digits + 1) (value * 10 + d) job sheet)
  digit_run field digits value d number digit room =
      let r = reader_at field digits value job sheet in
      let own = number_own r (48 + d) number (record { low = omega arith; high = omega arith; room = room }) in
      let same : 48 + d - 48 ≡ d = omega arith in
      one_byte (own_fits r (48 + d) own)
      (own_leaves r (48 + d) own
      ∙ ap (λ (x : ℕ). reader_at field (digits + 1) x job sheet) (number_value r (48 + d) number ∙ ap (value * 10 +◌) same))

  number_run :
      (field : Field) → letter_field field ≡ false → (x : ℕ) → x ≤ number_most
      → Runs (reader_at field 0 0 job sheet) (decimal_of x) (reader_at field (length (decimal_of x)) x job sheet)
  number_run field number =
      by_digits
      (λ x. x ≤ number_most → Runs (reader_at field 0 0 job sheet) (decimal_of x) (reader_at field (length (decimal_of x)) x job sheet))
      (λ d digit small.
      let same : 0 * 10 + d ≡ d = omega arith in
      rw (decimal_one d digit)
      (subst (λ (x : ℕ). Runs (reader_at field 0 0 job sheet) ((48 + d) ∷ []) (reader_at field 1 x job sheet)) same (digit_run field 0 0 d number digit (inl refl))))
      (λ x d some digit before small.
      rw (decimal_more x d some digit (omega arith), length-append)
      (before (omega arith) then digit_run field (length (decimal_of x)) x d number digit (inr (some, omega (arith, decimal_length 3 x (omega arith))))))

  end_run :
      (field : Field) (digits value : ℕ) → 0 < digits
      → Runs (reader_at field digits value job sheet) (end_byte field ∷ []) (stored_of (reader_at field digits value job sheet) (end_byte field))
  end_run field digits value some =
      let r = reader_at field digits value job sheet in
      let ends = usual_ends field in
      one_byte (end_fits r (end_byte field) some ends) (end_leaves r (end_byte field) some ends)

  order_run : (x : ℕ) → x ≤ order_w → Runs (reader_at Order 0 0 job sheet) (order_letter x) (reader_at Order 1 x job sheet)
  unfolding fits_of own_byte advanced_of value_after
  order_run zero h = one_byte refl refl
  order_run (suc zero) h = one_byte refl refl
  order_run (suc (suc x)) h = absurd (omega arith)

  model_run : (x : ℕ) → x ≤ original → Runs (reader_at Model 0 0 job sheet) (model_letter x) (reader_at Model 1 x job sheet)
  unfolding fits_of own_byte advanced_of value_after
  model_run zero h = one_byte refl refl
  model_run (suc zero) h = one_byte refl refl
  model_run (suc (suc x)) h = absurd (omega arith)

-- a whole line
abbrev between_at : Job → Sheet → Reader
between_at job sheet = reader_at C 0 0 job sheet

spare_run :
    (order model slots digits : ℕ) (spare : Bool) → 0 < digits
    → Runs (reader_at Slots digits slots no_job (sheet_of (setting_of order model) blank_sheet.slots blank_sheet.list)) (spare_end spare)
    (between_at no_job (sheet_of (with_spare (setting_of order model) spare) slots blank_sheet.list))
unfolding fits_of own_byte advanced_of value_after stored_of
spare_run order model slots digits true some =
    let r = reader_at Slots digits slots no_job (sheet_of (setting_of order model) blank_sheet.slots blank_sheet.list) in
    one_byte (end_fits r 32 some refl) (end_leaves r 32 some refl)
    then one_byte refl refl
    then end_run no_job _ Spare 1 0 (omega arith)
spare_run order model slots digits false some = end_run no_job _ Slots digits slots some

first_line_run :
    (s : Setting) (slots : ℕ) → s.order ≤ order_w → s.model ≤ original → slots ≤ number_most
    → Runs start_reader (first_line s slots) (between_at no_job (sheet_of s slots blank_sheet.list))
unfolding first_line stored_of
first_line_run s slots order model small =
    order_run no_job blank_sheet s.order order
    then end_run no_job blank_sheet Order 1 s.order (omega arith)
    then model_run no_job _ s.model model
    then end_run no_job _ Model 1 s.model (omega arith)
    then number_run no_job _ Slots refl slots small
    then spare_run s.order s.model slots _ s.spare (decimal_some slots)

job_line_run :
    (job : Job) (sheet : Sheet) (j : Job) → SmallJob j
    → Runs (between_at job sheet) (job_line j) (between_at j (sheet_of sheet.setting sheet.slots (pushed_of sheet.list j)))
unfolding job_line stored_of
job_line_run job sheet j small =
    number_run job sheet C refl j.c small.c
    then end_run job sheet C _ j.c (decimal_some j.c)
    then number_run _ sheet T refl j.t small.t
    then end_run _ sheet T _ j.t (decimal_some j.t)
    then number_run _ sheet M refl j.m small.m
    then end_run _ sheet M _ j.m (decimal_some j.m)
    then number_run _ sheet K refl j.k small.k
    then end_run _ sheet K _ j.k (decimal_some j.k)

-- all job lines
job_lines_run :
    (job : Job) (sheet : Sheet) (jobs : List Job) → ((i : ℕ) → i < length jobs → SmallJob (job_at jobs i))
    → Runs (between_at job sheet) (job_lines jobs) (between_at (last_job job jobs) (sheet_of sheet.setting sheet.slots (pushed_all sheet.list jobs)))
unfolding job_lines last_job pushed_all
job_lines_run job sheet [] small = no_bytes
job_lines_run job sheet (j ∷ jobs) small =
    job_line_run job sheet j (small 0 (omega arith))
    then job_lines_run j (sheet_of sheet.setting sheet.slots (pushed_of sheet.list j)) jobs (λ i h. small (suc i) (omega arith))

-- what the whole sheet leaves
pub sheet_run :
    {bytes : List ℕ} {s : Setting} {slots : ℕ} {jobs : List Job} → SheetOf bytes s slots jobs
    → Runs start_reader bytes (between_at (last_job no_job jobs) (sheet_of s slots (pushed_all blank_sheet.list jobs)))
sheet_run {bytes} {s} {slots} {jobs} is =
    rw is.text
    (first_line_run s slots is.order is.model is.slots_small
    then job_lines_run no_job (sheet_of s slots blank_sheet.list) jobs is.jobs_small)
