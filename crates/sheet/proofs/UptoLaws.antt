-- The first bytes fit exactly if some sheet begins with them, and the place is where they stop to fit.
use mathlib.Core.Path.{◌≡◌, refl, ◌∙◌, ap, subst}
use mathlib.Core.Bool.{Bool, true, false, ◌&&◌}
use mathlib.Core.List.{List}
use Prim.Native.Nat.{ℕ, zero, suc, ◌≤◌, ◌<◌}
use native.Mathlib.Decide.{dec_lt, le_ind}
use native.Mathlib.Omega.{arith}
use lib.ListN.{length, take}
use lib.Seq.{take-suc, take-length}
use Rattle.job.specs.declared.record.Job.{Job}
use Rattle.job.specs.Filled.{empty_list}
use Rattle.place.specs.declared.setting.Setting.{Setting}
use Rattle.sheet.specs.declared.reader.Reader.{Reader}
use Rattle.sheet.specs.Form.{SheetOf, IsSheet, Begins}
use Rattle.sheet.specs.Reader.{byte_at, start_reader, fits_of, sheet_of, between_lines, reader_upto, fits_upto, place_upto}
use Rattle.sheet.specs.Answer.{last_reader}
use Rattle.job.proofs.TestLaws.{both, clash}
use Rattle.place.proofs.CondLaws.{by_test}
use Rattle.sheet.proofs.RunLaws.{run_from, fits_from, front_fits, upto_run, upto_fits}
use Rattle.sheet.proofs.PushedLaws.{pushed_all}
use Rattle.sheet.proofs.CompleteLaws.{sheet_run}
use Rattle.sheet.proofs.HoldsLaws.{Holds, holds_start, holds_more, holds_sheet}
use Rattle.sheet.proofs.BeginsLaws.{holds_begins}

module _ (bytes : List ℕ) where
  pub upto_holds : (n : ℕ) → n ≤ length bytes → fits_upto bytes n ≡ true → Holds (take n bytes) (reader_upto bytes n)
  unfolding fits_upto reader_upto
  upto_holds zero h fits = holds_start
  upto_holds (suc n) h fits =
      let tests = both (fits_upto bytes n) (fits_of (reader_upto bytes n) (byte_at bytes n)) fits in
      rw (take-suc bytes n 0 h) (holds_more (upto_holds n (omega arith) tests.0) (byte_at bytes n) tests.1)

  pub fits_begins : (n : ℕ) → n ≤ length bytes → fits_upto bytes n ≡ true → Begins (take n bytes)
  fits_begins n h fits = holds_begins (upto_holds n h fits)

  pub begins_fits : (n : ℕ) → n ≤ length bytes → Begins (take n bytes) → fits_upto bytes n ≡ true
  begins_fits n h begins =
      upto_fits bytes n h
      ∙ front_fits start_reader (take n bytes) begins.rest (sheet_run begins.sheet.is).fits

  -- the whole of the bytes
  last_run : last_reader bytes ≡ run_from start_reader bytes
  last_run = upto_run bytes (length bytes) (omega arith) ∙ ap (run_from start_reader) (take-length bytes)

  pub last_sheet :
      {s : Setting} {slots : ℕ} {jobs : List Job} → SheetOf bytes s slots jobs
      → (last_reader bytes).sheet ≡ sheet_of s slots (pushed_all (empty_list 0) jobs)
  last_sheet is = ap (λ (r : Reader). r.sheet) (last_run ∙ (sheet_run is).ends)

  abbrev pub form_fits : Bool
  form_fits = fits_upto bytes (length bytes) && between_lines (last_reader bytes)

  pub fits_sheet : form_fits ≡ true → IsSheet bytes
  fits_sheet e =
      let tests = both (fits_upto bytes (length bytes)) (between_lines (last_reader bytes)) e in
      subst IsSheet (take-length bytes) (holds_sheet (upto_holds (length bytes) (omega arith) tests.0) tests.1)

  pub sheet_fits : IsSheet bytes → form_fits ≡ true
  sheet_fits is =
      let run = sheet_run is.is in
      let fits : fits_upto bytes (length bytes) ≡ true =
      upto_fits bytes (length bytes) (omega arith) ∙ ap (fits_from start_reader) (take-length bytes) ∙ run.fits in
      let line : between_lines (last_reader bytes) ≡ true = ap between_lines (last_run ∙ run.ends) in
      rw (fits, line)

  -- where they stop to fit
  fits_down : (m n : ℕ) → m ≤ n → fits_upto bytes n ≡ true → fits_upto bytes m ≡ true
  unfolding fits_upto
  fits_down m n h =
      le_ind (λ (x : ℕ). fits_upto bytes x ≡ true → fits_upto bytes m ≡ true) (λ e. e)
      (λ x l before e. before (both (fits_upto bytes x) (fits_of (reader_upto bytes x) (byte_at bytes x)) e).0)
      n h

  pub formed_fits : form_fits ≡ true → (n : ℕ) → n ≤ length bytes → fits_upto bytes n ≡ true
  formed_fits e n h =
      fits_down n (length bytes) h (both (fits_upto bytes (length bytes)) (between_lines (last_reader bytes)) e).0

  pub record Stop (n place : ℕ) : Type 0 where
    pub high : place ≤ n
    pub fits : fits_upto bytes place ≡ true
    pub stops : place < n → fits_upto bytes (suc place) ≡ false

  stop_later : (n place : ℕ) → Stop n place → fits_upto bytes (suc n) ≡ false → Stop (suc n) place
  stop_later n place stop e =
      record { high = omega (arith, stop.high); fits = stop.fits; stops = λ h. go (dec_lt place n) }
    where
      go : Dec (place < n) → fits_upto bytes (suc place) ≡ false
      go (yes h) = stop.stops h
      go (no h) = let here : place ≡ n = omega (arith, stop.high) in rw here e

  pub place_stop : (n : ℕ) → Stop n (place_upto bytes n)
  unfolding place_upto fits_upto
  place_stop zero = record { high = omega arith; fits = refl; stops = λ h. absurd (omega arith) }
  place_stop (suc n) =
      by_test (Stop (suc n)) (fits_upto bytes (suc n))
      (λ e. record { high = omega arith; fits = e; stops = λ h. absurd (omega arith) })
      (stop_later n (place_upto bytes n) (place_stop n))

  stop_below : (n p q : ℕ) → Stop n p → Stop n q → q ≤ p
  stop_below n p q a b = go (dec_lt p q)
    where
      go : Dec (p < q) → q ≤ p
      go (yes h) = absurd (clash (a.stops (omega (arith, b.high))) (fits_down (suc p) q h b.fits))
      go (no h) = omega arith

  pub place_is : {n place : ℕ} → Stop n place → place_upto bytes n ≡ place
  place_is {n} {place} stop =
      let found = place_stop n in
      omega (arith, stop_below n (place_upto bytes n) place found stop, stop_below n place (place_upto bytes n) stop found)
