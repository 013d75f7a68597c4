-- The text of a set: how long it is at most, and how it goes on from job to job.
use mathlib.Core.Path.{◌≡◌, refl, ◌∙◌, ap, subst}
use mathlib.Core.Bool.{Bool, true, false, cond}
use mathlib.Core.List.{List, [], ◌++◌, append-nil, append_assoc}
use Prim.Native.Nat.{ℕ, zero, suc, ◌+◌, ◌*◌, ◌-◌, ◌/◌, ◌%◌, ◌^◌, ◌≤◌, ◌<◌}
use native.Mathlib.Nat.{add-zero, add-suc}
use native.Mathlib.Numerals.{add-one}
use native.Mathlib.Decide.{dec_lt}
use native.Mathlib.Omega.{arith}
use lib.ListN.{length, length-append}
use borrow.Author.Tests.{eq-eqb, ne_eqb}
use Rattle.job.specs.Limit.{count_most}
use Rattle.run.specs.Answer.{member}
use Rattle.text.specs.Decimal.{decimal_of}
use Rattle.text.proofs.DecimalLaws.{decimal_one, decimal_length}
use Rattle.lines.specs.Parts.{labelled}
use Rattle.lines.specs.Slot.{set_text}

-- a job's number has one digit below 10, and two below 100
job_length : (n : ℕ) → n < 100 → length (decimal_of n) + (n - 10) ≤ 1 + (suc n - 10)
job_length n h =
    elim (dec_lt n 10) [
      | yes l ↦ omega (arith, ap length (decimal_one n l))
      | no l ↦ omega (arith, decimal_length 1 n (omega arith))
    ]

module _ (label : List ℕ) (set : ℕ) where
  next : (n : ℕ) (b : Bool) → member set n ≡ b → set_text label set (suc n) ≡ set_text label set n ++ cond b (labelled label n) []
  unfolding set_text
  next n b e = rw e

  -- how the text goes on from job to job
  pub set_starts : set_text label set 0 ≡ []
  unfolding set_text
  set_starts = refl

  pub set_with : (n : ℕ) → set / 2 ^ n % 2 ≡ 1 → set_text label set (n + 1) ≡ set_text label set n ++ labelled label n
  set_with n inside = rw (add-one n) (next n true (eq-eqb (set / 2 ^ n % 2) 1 inside))

  pub set_without : (n : ℕ) → (set / 2 ^ n % 2 ≡ 1 → ⊥) → set_text label set (n + 1) ≡ set_text label set n
  set_without n out = rw (add-one n) (next n false (ne_eqb (set / 2 ^ n % 2) 1 out) ∙ append-nil (set_text label set n))

  longer : (n k : ℕ) → length (set_text label set n) ≤ length (set_text label set (n + k))
  longer n zero = rw (add-zero n) (omega arith)
  longer n (suc k) =
      rw (add-suc n k, next (n + k) (member set (n + k)) refl)
      (omega (arith, longer n k, length-append (set_text label set (n + k)) (cond (member set (n + k)) (labelled label (n + k)) [])))

  pub set_room :
      (n : ℕ) → n < count_most → set / 2 ^ n % 2 ≡ 1
      → length (set_text label set n) + length (labelled label n) ≤ length (set_text label set count_most)
  set_room n few inside =
      let k = count_most - (n + 1) in
      let all : n + 1 + k ≡ count_most = omega arith in
      let more = subst (λ (m : ℕ). length (set_text label set (n + 1)) ≤ length (set_text label set m)) all (longer (n + 1) k) in
      omega (arith, ap length (set_with n inside), length-append (set_text label set n) (labelled label n))

  -- the first n jobs take 3 bytes each, and those from 10 on one more
  pub set_most : length label ≡ 2 → (n : ℕ) → n ≤ count_most → length (set_text label set n) ≤ 3 * n + (n - 10)
  unfolding set_text
  set_most two zero few = omega arith
  set_most two (suc n) few = go (member set n) refl (set_most two n (omega arith))
    where
      go :
          (b : Bool) → member set n ≡ b → length (set_text label set n) ≤ 3 * n + (n - 10)
          → length (set_text label set (suc n)) ≤ 3 * suc n + (suc n - 10)
      go true e before =
          rw (next n true e, length-append (set_text label set n) (labelled label n), length-append label (decimal_of n))
          (omega (arith, job_length n (omega arith)))
      go false e before = rw (next n false e, append-nil (set_text label set n)) (omega arith)

pub ruleset members = (append_assoc, append-nil, length-append, set_starts, set_with, set_without, set_room)
