-- The answers of admission and of a fill, and the bytes of a fill, by their tests.
use mathlib.Core.Path.{◌≡◌, refl, sym, ◌∙◌}
use mathlib.Core.Bool.{Bool, true, false}
use mathlib.Core.List.{List, []}
use Prim.Native.Nat.{ℕ, ◌%◌}
use lib.Dec.{eqb}
use lib.ListN.{length}
use borrow.Author.Tests.{eq-eqb, ne_eqb}
use native.Mathlib.Decide.{ℕ_discrete}
use Rattle.job.specs.declared.refusal.Refusal.{Refusal}
use Rattle.job.specs.declared.refusal.Refusal.TheVariants.{JobBytes}
use Rattle.job.specs.Told.{Told, row, passed, told}
use Rattle.job.specs.Check.{otherwise}
use Rattle.admission.specs.Verdict.{verdict_told}
use Rattle.place.specs.declared.setting.Setting.{Setting}
use Rattle.run.specs.Step.{start_told, start_state}
use Rattle.timetable.specs.Table.{write_told, write_bytes}
use Rattle.entry.specs.JobBytes.{list_from}
use Rattle.entry.specs.Entry.{whole_jobs, admit_told, fill_told, fill_bytes}
use Rattle.entry.specs.Meaning.{Whole}
use Rattle.job.proofs.ToldLaws.{not_passed}
use Rattle.job.proofs.CheckLaws.{otherwise_refused}

-- the test of row 14
module _ (jobs : List ℕ) (t : Told) where
  pub whole_told : Whole jobs → whole_jobs jobs t ≡ t
  unfolding whole_jobs
  whole_told whole = rw (eq-eqb (length jobs % 6) 0 whole)

  pub broken_told : (Whole jobs → ⊥) → whole_jobs jobs t ≡ row 14 []
  unfolding whole_jobs
  broken_told broken = rw (ne_eqb (length jobs % 6) 0 broken)

-- what an answer of the bytes' list says of them
module _ (jobs : List ℕ) where
  pub read_whole : passed ≡ whole_jobs jobs passed → Whole jobs
  read_whole e = go (ℕ_discrete (length jobs % 6) 0)
    where
      go : Dec (Whole jobs) → Whole jobs
      go (yes whole) = whole
      go (no broken) = absurd (not_passed JobBytes (sym (e ∙ broken_told jobs passed broken)))

  pub read_broken : (r : Refusal) → told r ≡ whole_jobs jobs passed → (Whole jobs → ⊥) × (told r ≡ row 14 [])
  read_broken r e = (broken, e ∙ broken_told jobs passed broken)
    where
      broken : Whole jobs → ⊥
      broken whole = not_passed r (e ∙ whole_told jobs passed whole)

-- admission
pub admit_broken : (jobs : List ℕ) (model : ℕ) → (Whole jobs → ⊥) → admit_told jobs model ≡ row 14 []
unfolding admit_told
admit_broken jobs model broken = broken_told jobs _ broken

pub admit_whole : (jobs : List ℕ) (model : ℕ) → Whole jobs → admit_told jobs model ≡ verdict_told (list_from jobs) model
unfolding admit_told
admit_whole jobs model whole = whole_told jobs _ whole

-- a fill
pub fill_broken :
    (jobs : List ℕ) (setting : Setting) (len offset n : ℕ) → (Whole jobs → ⊥) → fill_told jobs setting len offset n ≡ row 14 []
unfolding fill_told
fill_broken jobs setting len offset n broken = broken_told jobs _ broken

pub fill_starts :
    (jobs : List ℕ) (setting : Setting) (len offset n : ℕ) → Whole jobs
    → eqb (start_told (list_from jobs) setting).number 0 ≡ false
    → fill_told jobs setting len offset n ≡ start_told (list_from jobs) setting
unfolding fill_told
fill_starts jobs setting len offset n whole refused =
    whole_told jobs _ whole ∙ otherwise_refused (start_told (list_from jobs) setting) _ refused

-- it answers as the writer does on the state that was started, which also leaves the bytes
pub record WritesOn (jobs : List ℕ) (setting : Setting) (bytes : List ℕ) (offset n : ℕ) : Type 0 where
  pub told_is :
      fill_told jobs setting (length bytes) offset n
      ≡ write_told (start_state (list_from jobs) setting) (length bytes) offset n
  pub bytes_are :
      fill_bytes jobs setting bytes offset n ≡ write_bytes (start_state (list_from jobs) setting) bytes offset n

module _ (jobs : List ℕ) (setting : Setting) (bytes : List ℕ) (offset n : ℕ) where
  -- a refused fill leaves every byte
  pub bytes_stay :
      {t : Told} → fill_told jobs setting (length bytes) offset n ≡ t → eqb t.number 0 ≡ false
      → bytes ≡ fill_bytes jobs setting bytes offset n
  unfolding fill_bytes
  bytes_stay told refused = rw (told, refused)

  -- one whose start has the number 0 goes on to the writer
  module _ (whole : Whole jobs) (started : (start_told (list_from jobs) setting).number ≡ 0) where
    abbrev written : Told
    written = write_told (start_state (list_from jobs) setting) (length bytes) offset n

    goes_on_lem : fill_told jobs setting (length bytes) offset n ≡ written
    unfolding fill_told otherwise
    goes_on_lem = whole_told jobs _ whole ∙ rw (eq-eqb (start_told (list_from jobs) setting).number 0 started)

    bytes_by :
        (b : Bool) → eqb written.number 0 ≡ b
        → fill_bytes jobs setting bytes offset n ≡ write_bytes (start_state (list_from jobs) setting) bytes offset n
    unfolding fill_bytes write_bytes
    bytes_by true e = rw (goes_on_lem, e)
    bytes_by false e = rw (goes_on_lem, e)

    pub writes_on : WritesOn jobs setting bytes offset n
    writes_on = record { told_is = goes_on_lem; bytes_are = bytes_by (eqb written.number 0) refl }

pub fill_keeps :
    (jobs : List ℕ) (setting : Setting) (bytes : List ℕ) (offset n : ℕ)
    → ((fill_told jobs setting (length bytes) offset n).number ≡ 0 → ⊥) → fill_bytes jobs setting bytes offset n ≡ bytes
fill_keeps jobs setting bytes offset n refused =
    sym (bytes_stay jobs setting bytes offset n refl (ne_eqb (fill_told jobs setting (length bytes) offset n).number 0 refused))
