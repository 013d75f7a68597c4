-- Counts over a list of bytes of any content and length, and how they change by one more byte at its end.
use mathlib.Core.Path.{◌≡◌, refl, sym, ap, ◌∙◌}
use mathlib.Core.Bool.{Bool, true, false, cond}
use mathlib.Core.List.{List, [], ◌∷◌, ◌++◌}
use Prim.Native.Nat.{ℕ, zero, suc, ◌+◌, ◌*◌, ◌≤◌}
use native.Mathlib.Nat.{suc-mul, mul-le-mul_right, le_trans}
use native.Mathlib.Decide.{le_ind}
use native.Mathlib.Numerals.{add-one}
use native.Mathlib.Omega.{arith}
use lib.Dec.{leb, eqb}
use lib.ListN.{length, take, drop, length-drop, drop_of_length-le}
use lib.Seq.{take_all, take-append-le, drop-append-le}
use borrow.Author.Tests.{lt-leb}
use Rattle.job.specs.declared.record.Job.{Job}
use Rattle.run.specs.SlotMeaning.{how_many}
use Rattle.rules.specs.Rules.{count_in, slots_of, finished_in}

module _ (f : ℕ → Bool) where
  pub count_in_none : count_in f [] ≡ 0
  unfolding count_in
  count_in_none = refl

  pub count_in_append : (a b : List ℕ) → count_in f (a ++ b) ≡ count_in f a + count_in f b
  unfolding count_in
  count_in_append [] b = omega arith
  count_in_append (x ∷ a) b = go (f x) (count_in_append a b)
    where
      go :
          (t : Bool) → count_in f (a ++ b) ≡ count_in f a + count_in f b
          → cond t (count_in f (a ++ b) + 1) (count_in f (a ++ b)) ≡ cond t (count_in f a + 1) (count_in f a) + count_in f b
      go true h = omega arith
      go false h = h

  -- one more byte at the end
  pub count_in_more : (a : List ℕ) (b : ℕ) → count_in f (a ++ b ∷ []) ≡ cond (f b) (count_in f a + 1) (count_in f a)
  unfolding count_in
  count_in_more a b = count_in_append a (b ∷ []) ∙ go (f b)
    where
      go : (t : Bool) → count_in f a + cond t (0 + 1) 0 ≡ cond t (count_in f a + 1) (count_in f a)
      go true = refl
      go false = omega arith

  pub count_in_high : (a : List ℕ) → count_in f a ≤ length a
  unfolding count_in
  count_in_high [] = omega arith
  count_in_high (x ∷ a) = go (f x) (count_in_high a)
    where
      go : (t : Bool) → count_in f a ≤ length a → cond t (count_in f a + 1) (count_in f a) ≤ suc (length a)
      go true h = omega arith
      go false h = omega arith

module _ (job : Job) (j : ℕ) where
  -- the n-th period, counted from 0, of bytes that begin as a window opens
  abbrev period_at : ℕ → List ℕ → List ℕ
  period_at n bytes = take job.t (drop (n * job.t) bytes)

  pub finished_none : (a : List ℕ) → finished_in job j a 0 ≡ 0
  unfolding how_many
  finished_none a = refl

  -- what comes after the first n periods does not change what was finished in them
  pub finished_append :
      (a b : List ℕ) (n : ℕ) → n * job.t ≤ length a → finished_in job j (a ++ b) n ≡ finished_in job j a n
  unfolding how_many
  finished_append a b zero h = refl
  finished_append a b (suc n) h =
      let fits : n * job.t + job.t ≤ length a = rw suc-mul at h in
      let same : period_at n (a ++ b) ≡ period_at n a =
      ap (take job.t) (drop-append-le (n * job.t) a b (omega arith))
      ∙ take-append-le job.t (drop (n * job.t) a) b (omega (arith, length-drop (n * job.t) a)) in
      rw (same, finished_append a b n (omega arith))

  -- the open period, with v slots of the job, is all that stands behind the n periods before it
  pub finished_open :
      (a : List ℕ) (n v past : ℕ) → length a ≤ n * job.t + job.t → slots_of j (drop (n * job.t) a) ≡ v
      → finished_in job j a n ≡ past → finished_in job j a (n + 1) ≡ cond (leb job.c v) (past + 1) past
  unfolding how_many
  finished_open a n v past high slots finished =
      let all : period_at n a ≡ drop (n * job.t) a =
      take_all job.t (drop (n * job.t) a) (omega (arith, length-drop (n * job.t) a)) in
      rw (add-one, all, slots, finished)

  -- a period that has no slot yet finishes nothing
  pub finished_empty :
      (a : List ℕ) (n : ℕ) → 1 ≤ job.c → length a ≤ n * job.t → finished_in job j a (n + 1) ≡ finished_in job j a n
  finished_empty a n low h =
      finished_open a n 0 (finished_in job j a n) (omega arith)
      (ap (slots_of j) (drop_of_length-le a h) ∙ count_in_none (λ b. eqb b j)) refl
      ∙ rw (lt-leb job.c 0 low)

  -- nor do periods that have not begun
  pub finished_rest :
      (a : List ℕ) (n : ℕ) → 1 ≤ job.c → length a ≤ n * job.t → (m : ℕ) → n ≤ m → finished_in job j a m ≡ finished_in job j a n
  finished_rest a n low h =
      le_ind (λ (m : ℕ). finished_in job j a m ≡ finished_in job j a n) refl
      (λ m past same.
      ap (finished_in job j a) (sym (add-one m))
      ∙ finished_empty a m low (le_trans h (mul-le-mul_right job.t past))
      ∙ same)
