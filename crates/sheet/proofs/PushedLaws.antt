-- A list with jobs pushed to its end: the count is their number; up to sixteen stand in their places, with zeros behind them; and the check
-- answers it as it answers the jobs themselves.
use mathlib.Core.Path.{◌≡◌, refl, sym, ◌∙◌, ap}
use mathlib.Core.List.{List, [], ◌∷◌, ◌++◌, append-nil}
use Prim.Native.Nat.{ℕ, zero, suc, ◌+◌, ◌-◌, ◌≤◌, ◌<◌, min}
use native.Mathlib.Nat.{sub-zero, suc-sub-suc}
use native.Mathlib.Decide.{dec_lt}
use native.Mathlib.Omega.{arith}
use lib.ListN.{length, replicate, length-append, get_or-append}
use lib.Seq.{append_snoc, set-append_seam}
use borrow.Author.Tests.{lt-ltb}
use Rattle.job.specs.declared.record.Job.{Job}
use Rattle.job.specs.declared.list.JobList.{JobList}
use Rattle.job.specs.Limit.{count_most}
use Rattle.job.specs.Check.{no_job, list_told}
use Rattle.job.specs.Filled.{empty_list}
use Rattle.job.proofs.Meaning.{row_two_exactly}
use Rattle.job.proofs.AlikeLaws.{list_alike}
use Rattle.sheet.specs.Form.{form_list}
use Rattle.sheet.specs.Reader.{counted_most, pushed_of}

unfoldable pub pushed_all : JobList → List Job → JobList
pushed_all l [] = l
pushed_all l (j ∷ jobs) = pushed_all (pushed_of l j) jobs

-- the last of the jobs, or the one before them
unfoldable pub last_job : Job → List Job → Job
last_job job [] = job
last_job job (j ∷ jobs) = last_job j jobs

all_many : (l : JobList) (jobs : List Job) → count_most < l.count + length jobs → count_most < (pushed_all l jobs).count
unfolding pushed_all pushed_of
all_many l [] many = omega arith
all_many l (j ∷ jobs) many = all_many (pushed_of l j) jobs (omega arith)

-- jobs from the first record on, and n records of zeros behind them
abbrev pub padded : List Job → ℕ → JobList
padded jobs n = record { jobs = jobs ++ replicate n no_job; count = length jobs }

pushed_padded :
    (before : List Job) (j : Job) (n : ℕ) → length before < count_most
    → pushed_of (padded before (suc n)) j ≡ padded (before ++ (j ∷ [])) n
unfolding pushed_of
pushed_padded before j n room =
    let stored = set-append_seam before no_job (replicate n no_job) j ∙ sym (append_snoc before j (replicate n no_job)) in
    let counted : min (length before + 1) counted_most ≡ length (before ++ (j ∷ [])) = omega (arith, length-append before (j ∷ [])) in
    rw (lt-ltb (length before) count_most room) (λ i. record { jobs = stored i; count = counted i })

all_padded :
    (before jobs : List Job) (n : ℕ) → length before + n ≡ count_most → length jobs ≤ n
    → pushed_all (padded before n) jobs ≡ padded (before ++ jobs) (n - length jobs)
unfolding pushed_all
all_padded before [] n room few = rw (append-nil before, sub-zero n)
all_padded before (j ∷ jobs) zero room few = absurd (omega arith)
all_padded before (j ∷ jobs) (suc n) room few =
    ap (λ (l : JobList). pushed_all l jobs) (pushed_padded before j n (omega arith))
    ∙ all_padded (before ++ (j ∷ [])) jobs n (omega (arith, length-append before (j ∷ []))) (omega arith)
    ∙ rw (append_snoc before j jobs, suc-sub-suc n (length jobs))

pub all_kept : (jobs : List Job) → length jobs ≤ count_most → pushed_all (empty_list 0) jobs ≡ padded jobs (count_most - length jobs)
all_kept jobs few = all_padded [] jobs count_most refl few

-- the check reads no record behind the jobs
rest_told : (jobs rest : List Job) → list_told (record { jobs = jobs ++ rest; count = length jobs }) ≡ list_told (form_list jobs)
rest_told jobs rest = list_alike (jobs ++ rest) jobs (length jobs) (λ i h. get_or-append jobs rest no_job i (omega arith))

pub pushed_told : (jobs : List Job) → list_told (pushed_all (empty_list 0) jobs) ≡ list_told (form_list jobs)
pushed_told jobs = go (dec_lt count_most (length jobs))
  where
    go : Dec (count_most < length jobs) → list_told (pushed_all (empty_list 0) jobs) ≡ list_told (form_list jobs)
    go (yes many) =
        (row_two_exactly (pushed_all (empty_list 0) jobs)).1 (all_many (empty_list 0) jobs (omega arith))
        ∙ sym ((row_two_exactly (form_list jobs)).1 many)
    go (no few) = ap list_told (all_kept jobs (omega arith)) ∙ rest_told jobs (replicate (count_most - length jobs) no_job)
