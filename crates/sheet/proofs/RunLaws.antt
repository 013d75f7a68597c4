-- The reader run over a list of bytes from any place, and that the reader after n bytes is the run over the first n.
use mathlib.Core.Path.{◌≡◌, refl, sym, ◌∙◌, ap}
use mathlib.Core.Bool.{Bool, true, ◌&&◌, and-true, and_assoc}
use mathlib.Core.List.{List, [], ◌∷◌, ◌++◌}
use Prim.Native.Nat.{ℕ, zero, suc, ◌≤◌}
use native.Mathlib.Omega.{arith}
use lib.ListN.{length, take}
use lib.Seq.{take-suc}
use Rattle.job.proofs.TestLaws.{both}
use Rattle.sheet.specs.declared.reader.Reader.{Reader}
use Rattle.sheet.specs.Reader.{byte_at, start_reader, fits_of, advanced_of, reader_upto, fits_upto}

infixr 20 ◌then◌
pub run_from : Reader → List ℕ → Reader
run_from r [] = r
run_from r (b ∷ bytes) = run_from (advanced_of r b) bytes

pub fits_from : Reader → List ℕ → Bool
fits_from r [] = true
fits_from r (b ∷ bytes) = fits_of r b && fits_from (advanced_of r b) bytes

-- from one reader over the bytes to another, each byte fitting
pub record Runs (from : Reader) (bytes : List ℕ) (to : Reader) : Type 0 where
  pub fits : fits_from from bytes ≡ true
  pub ends : run_from from bytes ≡ to

run_append : (r : Reader) (a b : List ℕ) → run_from r (a ++ b) ≡ run_from (run_from r a) b
unfolding run_from
run_append r [] b = refl
run_append r (x ∷ a) b = run_append (advanced_of r x) a b

fits_append : (r : Reader) (a b : List ℕ) → fits_from r (a ++ b) ≡ (fits_from r a && fits_from (run_from r a) b)
unfolding run_from fits_from
fits_append r [] b = refl
fits_append r (x ∷ a) b =
    ap (fits_of r x &&◌) (fits_append (advanced_of r x) a b)
    ∙ sym (and_assoc (fits_of r x) (fits_from (advanced_of r x) a) (fits_from (run_from (advanced_of r x) a) b))

pub no_bytes : {r : Reader} → Runs r [] r
unfolding run_from fits_from
no_bytes = record { fits = refl; ends = refl }

pub one_byte : {r q : Reader} {b : ℕ} → fits_of r b ≡ true → advanced_of r b ≡ q → Runs r (b ∷ []) q
unfolding run_from fits_from
one_byte fits ends = record { fits = rw fits; ends = ends }

pub ◌then◌ : {r q p : Reader} {a b : List ℕ} → Runs r a q → Runs q b p → Runs r (a ++ b) p
◌then◌ {r} {q} {p} {a} {b} first second =
    record {
      fits = rw (fits_append r a b, first.fits, first.ends) second.fits;
      ends = rw (run_append r a b, first.ends) second.ends;
    }

-- a text whose whole fits fits so far
pub front_fits : (r : Reader) (a b : List ℕ) → fits_from r (a ++ b) ≡ true → fits_from r a ≡ true
front_fits r a b e = (both (fits_from r a) (fits_from (run_from r a) b) (sym (fits_append r a b) ∙ e)).0

-- the reader after n bytes
pub upto_run : (bytes : List ℕ) (n : ℕ) → n ≤ length bytes → reader_upto bytes n ≡ run_from start_reader (take n bytes)
unfolding reader_upto run_from
upto_run bytes zero h = refl
upto_run bytes (suc n) h =
    ap (λ (r : Reader). advanced_of r (byte_at bytes n)) (upto_run bytes n (omega arith))
    ∙ sym (ap (run_from start_reader) (take-suc bytes n 0 h) ∙ run_append start_reader (take n bytes) (byte_at bytes n ∷ []))

pub upto_fits : (bytes : List ℕ) (n : ℕ) → n ≤ length bytes → fits_upto bytes n ≡ fits_from start_reader (take n bytes)
unfolding fits_upto fits_from
upto_fits bytes zero h = refl
upto_fits bytes (suc n) h =
    let before : n ≤ length bytes = omega arith in
    let front = take n bytes in
    let last = fits_of (run_from start_reader front) (byte_at bytes n) in
    rw (upto_fits bytes n before, upto_run bytes n before, take-suc bytes n 0 h, fits_append start_reader front (byte_at bytes n ∷ []))
    (sym (ap (fits_from start_reader front &&◌) (and-true last)))
