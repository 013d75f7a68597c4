-- A job's share of a cycle, how the load of a list goes on from job to job, and that it is the sum of exact shares.
use mathlib.Core.Path.{◌≡◌, refl, sym, ◌∙◌, ap}
use mathlib.Core.List.{List, [], ◌∷◌, map, sum}
use Prim.Native.Nat.{ℕ, zero, suc, ◌+◌, ◌*◌, ◌/◌, ◌≤◌}
use native.Mathlib.Nat.{le_trans, mul-le-mul, mul-le-mul_right, mul-div-le, div-mul_cancel}
use native.Mathlib.Numerals.{add-one}
use native.Mathlib.Omega.{arith}
use lib.ListN.{take}
use Rattle.job.specs.declared.record.Job.{Job}
use Rattle.job.specs.declared.list.JobList.{JobList}
use Rattle.job.specs.Check.{job_at}
use Rattle.job.specs.Sound.{SoundJob}
use Rattle.job.specs.Window.{window_of}
use Rattle.admission.specs.Load.{share_of, load_upto, load_of}
use Rattle.admission.specs.Judged.{CommonMultiple, Load}

-- the service of a window is within the window, so a share is within the cycle
pub service_most : {j : Job} → SoundJob j → j.m * j.c ≤ window_of j
service_most s = mul-le-mul s.m.high s.c.high

pub share_most : {j : Job} (h : ℕ) → SoundJob j → share_of j h ≤ h
share_most {j} h s = le_trans (mul-le-mul_right (h / window_of j) (service_most s)) (mul-div-le h (window_of j))

-- the load from job to job
pub load_none : (jobs : List Job) (h : ℕ) → load_upto jobs h 0 ≡ 0
unfolding load_upto
load_none jobs h = refl

pub load_more : (jobs : List Job) (h i : ℕ) → load_upto jobs h (i + 1) ≡ load_upto jobs h i + share_of (job_at jobs i) h
unfolding load_upto
load_more jobs h i = ap (load_upto jobs h) (add-one i)

-- the load as the library's sum, from the first job on
load_front : (j : Job) (jobs : List Job) (h n : ℕ) → load_upto (j ∷ jobs) h (suc n) ≡ share_of j h + load_upto jobs h n
unfolding load_upto
load_front j jobs h zero = omega arith
load_front j jobs h (suc n) = omega (arith, load_front j jobs h n)

load_empty : (h n : ℕ) → load_upto [] h n ≡ 0
unfolding load_upto
load_empty h zero = refl
load_empty h (suc n) = omega (arith, load_empty h n)

shares_sum : (jobs : List Job) (h n : ℕ) → load_upto jobs h n ≡ sum ◌+◌ 0 (map (λ (j : Job). share_of j h) (take n jobs))
unfolding sum
shares_sum jobs h zero = load_none jobs h
shares_sum [] h (suc n) = load_empty h (suc n)
shares_sum (j ∷ jobs) h (suc n) = load_front j jobs h n ∙ ap (share_of j h +◌) (shares_sum jobs h n)

-- a list has one load of h slots, which is exact where every window divides h
pub load_is : {l : JobList} {h d : ℕ} → Load l h d → d ≡ load_of l h
load_is {l} {h} load = load.shares ∙ sym (shares_sum l.jobs h l.count)

pub load_exact : (l : JobList) {h : ℕ} → CommonMultiple l h → Load l h (load_of l h)
load_exact l {h} common =
    record {
      whole = λ i listed. div-mul_cancel (window_of (job_at l.jobs i)) (common i listed);
      shares = shares_sum l.jobs h l.count;
    }
