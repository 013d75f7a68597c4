-- Two lists of one count whose jobs are the same as far as their 16 records reach: what the records behind those hold is never read.
use mathlib.Core.Path.{◌≡◌, refl, sym, subst, ◌∙◌}
use mathlib.Core.Bool.{Bool, true, false}
use mathlib.Core.List.{List}
use Prim.Native.Nat.{ℕ, zero, suc, min, ◌<◌}
use native.Mathlib.Nat.{min-eq_left}
use native.Mathlib.Omega.{arith}
use lib.Dec.{ltb}
use borrow.Author.Tests.{ltb-true, ltb-false}
use Rattle.job.specs.declared.record.Job.{Job}
use Rattle.job.specs.declared.list.JobList.{JobList}
use Rattle.job.specs.Limit.{count_most}
use Rattle.job.specs.Check.{job_at, jobs_told, list_told}
use Rattle.job.specs.Filled.{filled_upto}
use Rattle.job.proofs.Meaning.{row_two_exactly}

-- the first n jobs are the same
abbrev pub Same : List Job → List Job → ℕ → Type 0
Same a b n = (i : ℕ) → i < n → job_at a i ≡ job_at b i

abbrev pub listed : List Job → ℕ → JobList
listed jobs n = record { jobs = jobs; count = n }

pub jobs_alike : (a b : List Job) (n : ℕ) → Same a b n → jobs_told a n ≡ jobs_told b n
unfolding jobs_told
jobs_alike a b zero same = refl
jobs_alike a b (suc n) same = rw (jobs_alike a b n (λ i h. same i (omega arith)), same n (omega arith)) refl

pub list_alike : (a b : List Job) (n : ℕ) → Same a b (min n count_most) → list_told (listed a n) ≡ list_told (listed b n)
unfolding list_told
list_alike a b n same = go (ltb count_most n) refl
  where
    go : (many : Bool) → ltb count_most n ≡ many → list_told (listed a n) ≡ list_told (listed b n)
    go true e =
        let many = ltb-true count_most n e in
        (row_two_exactly (listed a n)).1 many ∙ sym ((row_two_exactly (listed b n)).1 many)
    go false e = rw (jobs_alike a b n (subst (Same a b) (min-eq_left (ltb-false count_most n e)) same)) refl

-- an array filled from the first record on
pub filled_alike :
    {A : Type 0} (none : A) (f g : ℕ → A) (n : ℕ) → ((i : ℕ) → i < n → f i ≡ g i) → filled_upto none f n ≡ filled_upto none g n
unfolding filled_upto
filled_alike none f g zero same = refl
filled_alike none f g (suc n) same = rw (filled_alike none f g n (λ i h. same i (omega arith)), same n (omega arith)) refl
