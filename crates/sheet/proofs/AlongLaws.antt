-- The reader along the bytes, as a loop has it: sound, small enough to go on, and what is told where it stops.
use mathlib.Core.Path.{◌≡◌, refl, sym, ◌∙◌, ap, subst}
use mathlib.Core.Bool.{Bool, true, false}
use mathlib.Core.List.{List, [], ◌∷◌}
use Prim.Native.Nat.{ℕ, zero, suc, ◌+◌, ◌≤◌, ◌<◌}
use native.Mathlib.Numerals.{add-one}
use native.Mathlib.Omega.{arith}
use lib.ListN.{length}
use Rattle.std.specs.Prelude.{Result, IfOk}
use Rattle.job.specs.declared.record.Job.{Job}
use Rattle.job.specs.declared.refusal.Refusal.{Refusal}
use Rattle.job.specs.Told.{row, told_checked}
use Rattle.sheet.specs.declared.reading.Sheet.{Sheet}
use Rattle.sheet.specs.declared.reader.Field.{Field}
use Rattle.sheet.specs.declared.reader.Field.TheVariants.{Order, Model, Slots, Spare, C, T, M, K}
use Rattle.sheet.specs.declared.reader.Reader.{Reader}
use Rattle.sheet.specs.Form.{bytes_most}
use Rattle.sheet.specs.Sheet.{sheet_told}
use Rattle.sheet.specs.Reader.{byte_at, start_reader, SoundReader, own_byte, fits_of, pushed_of, job_with, sheet_with, stored_of, advanced_of, between_lines, reader_upto, fits_upto}
use Rattle.sheet.specs.Answer.{read_told}
use Rattle.sheet.specs.Promise.{ReadPromise}
use Rattle.job.proofs.TestLaws.{refuted, clash}
use Rattle.place.proofs.CondLaws.{by_test}
use Rattle.sheet.proofs.HoldsLaws.{holds_sound}
use Rattle.sheet.proofs.UptoLaws.{upto_holds, form_fits, formed_fits, Stop, place_is}
use Rattle.sheet.proofs.ReadLaws.{read_formed, read_formless}

-- a byte adds at most one job
sheet_count : (field : Field) (x : ℕ) (j : Job) (s : Sheet) → (sheet_with field x j s).list.count ≤ s.list.count + 1
unfolding pushed_of
sheet_count Order x j s = omega arith
sheet_count Model x j s = omega arith
sheet_count Slots x j s = omega arith
sheet_count Spare x j s = omega arith
sheet_count C x j s = omega arith
sheet_count T x j s = omega arith
sheet_count M x j s = omega arith
sheet_count K x j s = omega arith

advanced_count : (r : Reader) (b : ℕ) → (advanced_of r b).sheet.list.count ≤ r.sheet.list.count + 1
unfolding advanced_of stored_of
advanced_count r b =
    by_test (λ (q : Reader). q.sheet.list.count ≤ r.sheet.list.count + 1) (own_byte r b) (λ e. omega arith)
    (λ e. sheet_count r.field r.value (job_with r.field r.value r.job) r.sheet)

module _ (bytes : List ℕ) where
  count_upto_lem : (n : ℕ) → (reader_upto bytes n).sheet.list.count ≤ n
  unfolding reader_upto
  count_upto_lem zero = omega arith
  count_upto_lem (suc n) = omega (arith, advanced_count (reader_upto bytes n) (byte_at bytes n), count_upto_lem n)

  -- the reader after n bytes, all of which fitted
  pub record Along (r : Reader) (n : ℕ) : Type 0 where
    pub reader_is : r ≡ reader_upto bytes n
    pub fits : fits_upto bytes n ≡ true

  pub along_start : {r : Reader} → r ≡ start_reader → Along r 0
  unfolding reader_upto fits_upto
  along_start e = record { reader_is = e; fits = refl }

  module _ {r : Reader} {n : ℕ} (along : Along r n) where
    pub along_sound : n ≤ length bytes → SoundReader r
    along_sound h = rw along.reader_is (holds_sound (upto_holds bytes n h along.fits))

    pub along_count : r.sheet.list.count ≤ n
    along_count = rw along.reader_is (count_upto_lem n)

    fits_next : (b : Bool) → fits_of r (byte_at bytes n) ≡ b → fits_upto bytes (suc n) ≡ b
    unfolding fits_upto
    fits_next b e = rw (along.fits, ← along.reader_is) e

    pub along_more : {q : Reader} → fits_of r (byte_at bytes n) ≡ true → q ≡ advanced_of r (byte_at bytes n) → Along q (n + 1)
    unfolding reader_upto
    along_more fit next =
        rw (add-one n)
        record {
          reader_is = next ∙ ap (λ (p : Reader). advanced_of p (byte_at bytes n)) along.reader_is;
          fits = fits_next true fit;
        }

    stopped :
        length bytes ≤ bytes_most → Stop bytes (length bytes) n → form_fits bytes ≡ false → read_told bytes ≡ row 13 (n ∷ [])
    stopped short stop refused =
        read_formless bytes short refused ∙ ap (λ (place : ℕ). row 13 (place ∷ [])) (place_is bytes stop)

    -- a byte that does not fit is the place that row 13 names
    pub along_misfit :
        length bytes ≤ bytes_most → n < length bytes → fits_of r (byte_at bytes n) ≡ false → read_told bytes ≡ row 13 (n ∷ [])
    along_misfit short h misfit =
        let next = fits_next false misfit in
        stopped short (record { high = omega arith; fits = along.fits; stops = λ l. next })
        (refuted (λ formed. clash next (formed_fits bytes formed (suc n) h)))

  -- the end of the bytes
  pub along_end : {r : Reader} {n : ℕ} → Along r n → n ≡ length bytes → Along r (length bytes)
  along_end {r} along all = subst (Along r) all along

  module _ {r : Reader} (whole : Along r (length bytes)) (short : length bytes ≤ bytes_most) where
    form_is : form_fits bytes ≡ between_lines r
    form_is = rw (whole.fits, ← whole.reader_is)

    -- it is the place that row 13 names, where no line has ended
    pub along_open : between_lines r ≡ false → read_told bytes ≡ row 13 (length bytes ∷ [])
    along_open open-line =
        stopped whole short (record { high = omega arith; fits = whole.fits; stops = λ h. absurd (omega arith) }) (form_is ∙ open-line)

    -- the result is that of the sheet's own tests, where one has
    pub along_reads :
        between_lines r ≡ true → (result : Result Sheet Refusal) → told_checked result ≡ sheet_told r.sheet
        → IfOk result (λ sheet. sheet ≡ r.sheet) → ReadPromise bytes result
    along_reads line result told same = (
      told ∙ sym (read_formed bytes short (form_is ∙ line) ∙ ap (λ (q : Reader). sheet_told q.sheet) (sym whole.reader_is)),
      subst (λ (s : Sheet). IfOk result (λ sheet. sheet ≡ s)) (ap (λ (q : Reader). q.sheet) whole.reader_is) same,
    )
