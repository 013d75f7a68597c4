-- What stands in an array that is filled from the first record on.
use mathlib.Core.Path.{◌≡◌, refl, sym, subst, ap, ◌∙◌}
use mathlib.Core.List.{List}
use Prim.Native.Nat.{min, ℕ, zero, suc, ◌+◌, ◌≤◌, ◌<◌}
use native.Mathlib.Numerals.{add-one}
use native.Mathlib.Decide.{ℕ_discrete, dec_lt}
use native.Mathlib.Omega.{arith}
use lib.ListN.{length, get_or, set, replicate, length-set}
use lib.Seq.{get_or-set_same, get_or-set_other}
use Rattle.std.proofs.lemmas.List.{ext_get_or}
use Rattle.job.specs.declared.record.Job.{Job}
use Rattle.job.specs.declared.list.JobList.{JobList}
use Rattle.job.specs.Limit.{count_most}
use Rattle.job.specs.Check.{no_job, job_at}
use Rattle.job.specs.Promise.{PutUpto, ListByPromise}
use Rattle.job.specs.Filled.{filled_upto, empty_list, list_upto, list_by}

-- an array of which no record is filled
pub none_at : {A : Type 0} (none : A) (n i : ℕ) → get_or (replicate n none) i none ≡ none
none_at none zero i = refl
none_at none (suc n) zero = refl
none_at none (suc n) (suc i) = none_at none n i

module _ {A : Type 0} (none : A) (f : ℕ → A) where
  pub filled_long : (n : ℕ) → length (filled_upto none f n) ≡ count_most
  unfolding filled_upto
  filled_long zero = refl
  filled_long (suc n) = length-set (filled_upto none f n) n (f n) ∙ filled_long n

  pub filled_at : (n i : ℕ) → i < n → n ≤ count_most → get_or (filled_upto none f n) i none ≡ f i
  unfolding filled_upto
  filled_at zero i h few = absurd (omega arith)
  filled_at (suc n) i h few = go (ℕ_discrete i n) (λ less. filled_at n i less (omega arith))
    where
      go :
          Dec (i ≡ n) → (i < n → get_or (filled_upto none f n) i none ≡ f i)
          → get_or (set (filled_upto none f n) n (f n)) i none ≡ f i
      go (yes e) before = rw e (get_or-set_same (filled_upto none f n) n (f n) none (omega (arith, filled_long n)))
      go (no ne) before = get_or-set_other (filled_upto none f n) n i (f n) none ne ∙ before (omega arith)

  pub filled_past : (n i : ℕ) → n ≤ i → get_or (filled_upto none f n) i none ≡ none
  unfolding filled_upto
  filled_past zero i h = none_at none count_most i
  filled_past (suc n) i h =
      get_or-set_other (filled_upto none f n) n i (f n) none (omega arith) ∙ filled_past n i (omega arith)

  -- one record more
  pub filled_more :
      (i : ℕ) {array : List A} {next : A} → array ≡ filled_upto none f i → next ≡ f i → set array i next ≡ filled_upto none f (i + 1)
  unfolding filled_upto
  filled_more i e g = rw (add-one i, e, g)

-- a list, from job to job
module _ (job : ℕ → Job) (count : ℕ) where
  pub none_put : empty_list count ≡ list_upto job count 0
  unfolding filled_upto
  none_put = refl

  pub one_more_put :
      (i : ℕ) {list : JobList} {next : Job} → list ≡ list_upto job count i → next ≡ job i
      → record { jobs = set list.jobs i next; count = list.count } ≡ list_upto job count (i + 1)
  one_more_put i {list} {next} e f dim =
      record { jobs = filled_more no_job job i (ap (λ (x : JobList). x.jobs) e) f dim; count = ap (λ (x : JobList). x.count) e dim }

-- the same from call to call, where what is put is told by its calls
pub none_put_upto : (answers : ℕ → Job → Type 0) {jobs : List Job} → jobs ≡ replicate count_most no_job → PutUpto answers 0 jobs
none_put_upto answers e = subst (PutUpto answers 0) (sym e)
    (record { long = refl; put = λ at h. absurd (omega arith); past = λ at h. none_at no_job count_most at })

pub one_more_put_upto :
    (answers : ℕ → Job → Type 0) (n : ℕ) (jobs : List Job) (next : Job) → n < count_most → PutUpto answers n jobs → answers n next
    → PutUpto answers (n + 1) (set jobs n next)
one_more_put_upto answers n jobs next room before here = record {
  long = length-set jobs n next ∙ before.long;
  put = λ at h. go at h (ℕ_discrete at n);
  past = λ at h. get_or-set_other jobs n at next no_job (omega arith) ∙ before.past at (omega arith);
}
  where
    go : (at : ℕ) → at < n + 1 → Dec (at ≡ n) → answers at (job_at (set jobs n next) at)
    go at h (yes e) = subst (λ (x : ℕ). answers x (job_at (set jobs n next) x)) (sym e)
        (subst (answers n) (sym (get_or-set_same jobs n next no_job (omega (arith, before.long)))) here)
    go at h (no ne) = subst (answers at) (sym (get_or-set_other jobs n at next no_job ne)) (before.put at (omega arith))

-- where each call answers f's job, it is the list by f
pub by_calls :
    (answers : ℕ → Job → Type 0) (f : ℕ → Job) (count : ℕ) (r : JobList) → ListByPromise answers count r
    → ((at : ℕ) (j : Job) → at < min count count_most → answers at j → j ≡ f at) → r ≡ list_by f count
by_calls answers f count r p told dim = record { jobs = same dim; count = p.0 dim }
  where
    n : ℕ
    n = min count count_most

    at_each : (i : ℕ) → Dec (i < n) → job_at r.jobs i ≡ job_at (filled_upto no_job f n) i
    at_each i (yes h) = told i _ h (p.1.put i h) ∙ sym (filled_at no_job f n i h (omega arith))
    at_each i (no h) = p.1.past i (omega arith) ∙ sym (filled_past no_job f n i (omega arith))

    same : r.jobs ≡ filled_upto no_job f n
    same = ext_get_or no_job _ _ (p.1.long ∙ sym (filled_long no_job f n)) (λ i _. at_each i (dec_lt i n))
