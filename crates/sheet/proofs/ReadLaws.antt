-- How a read is told: by its length, by its form, and by what the sheet holds; and the result that tells so.
use mathlib.Core.Path.{◌≡◌, refl, sym, ◌∙◌, ap}
use mathlib.Core.Bool.{true, false}
use mathlib.Core.List.{List, [], ◌∷◌}
use Prim.Native.Nat.{ℕ, ◌≤◌, ◌<◌}
use lib.Dec.{eqb}
use lib.ListN.{length}
use borrow.Author.Tests.{lt-ltb, le-ltb}
use Rattle.job.specs.declared.refusal.Refusal.{Refusal}
use Rattle.std.specs.Prelude.{Result, Ok, Err}
use Rattle.job.specs.Told.{Told, row, passed, told}
use Rattle.job.specs.Check.{otherwise}
use Rattle.job.proofs.ToldLaws.{refusal_one_to_one, not_passed}
use Rattle.job.proofs.CheckLaws.{otherwise_passed, otherwise_refused}
use Rattle.sheet.specs.declared.reading.Sheet.{Sheet}
use Rattle.sheet.specs.Form.{bytes_most}
use Rattle.sheet.specs.Sheet.{sheet_told}
use Rattle.sheet.specs.Reader.{place_upto}
use Rattle.sheet.specs.Answer.{last_reader, form_told, read_told, read_sheet}
use Rattle.sheet.specs.Promise.{ReadPromise}
use Rattle.sheet.proofs.UptoLaws.{form_fits}

module _ (bytes : List ℕ) where
  -- the form
  form_passes : form_fits bytes ≡ true → form_told bytes ≡ passed
  unfolding form_told
  form_passes e = rw e

  form_refused : form_fits bytes ≡ false → form_told bytes ≡ row 13 (place_upto bytes (length bytes) ∷ [])
  unfolding form_told
  form_refused e = rw e

  -- the whole read
  pub read_long : bytes_most < length bytes → read_told bytes ≡ row 17 []
  unfolding read_told
  read_long h = rw (lt-ltb bytes_most (length bytes) h)

  module _ (short : length bytes ≤ bytes_most) where
    read_short : read_told bytes ≡ otherwise (form_told bytes) (sheet_told (last_reader bytes).sheet)
    unfolding read_told
    read_short = rw (le-ltb bytes_most (length bytes) short)

    pub read_formed : form_fits bytes ≡ true → read_told bytes ≡ sheet_told (last_reader bytes).sheet
    read_formed fits = read_short ∙ otherwise_passed (sheet_told (last_reader bytes).sheet) (form_passes fits)

    pub read_formless : form_fits bytes ≡ false → read_told bytes ≡ row 13 (place_upto bytes (length bytes) ∷ [])
    read_formless fits =
        let refused = form_refused fits in
        read_short
        ∙ otherwise_refused (form_told bytes) (sheet_told (last_reader bytes).sheet) (ap (λ (t : Told). eqb t.number 0) refused)
        ∙ refused

  -- a result, by what is told
  pub refusal_reads : (refusal : Refusal) → read_told bytes ≡ told refusal → ReadPromise bytes (Err refusal)
  refusal_reads refusal e = (sym e, tt)

  pub reads_ok : (r : Result Sheet Refusal) → ReadPromise bytes r → read_told bytes ≡ passed → r ≡ Ok (read_sheet bytes)
  reads_ok (Ok sheet) promise e = ap Ok promise.1
  reads_ok (Err refusal) promise e = absurd (not_passed refusal (promise.0 ∙ e))

  pub reads_err : (r : Result Sheet Refusal) → ReadPromise bytes r → ¬ (read_told bytes ≡ passed) → (refusal : Refusal) × (r ≡ Err refusal)
  reads_err (Ok sheet) promise never = absurd (never (sym promise.0))
  reads_err (Err refusal) promise never = (refusal, refl)

  -- the promise allows one result
  pub read_unique : (a b : Result Sheet Refusal) → ReadPromise bytes a → ReadPromise bytes b → a ≡ b
  read_unique (Ok s) (Ok s') promise promise' = ap Ok (promise.1 ∙ sym promise'.1)
  read_unique (Ok s) (Err r) promise promise' = absurd (not_passed r (promise'.0 ∙ sym promise.0))
  read_unique (Err r) (Ok s) promise promise' = absurd (not_passed r (promise.0 ∙ sym promise'.0))
  read_unique (Err r) (Err r') promise promise' = ap Err (refusal_one_to_one r r' (promise.0 ∙ sym promise'.0))
