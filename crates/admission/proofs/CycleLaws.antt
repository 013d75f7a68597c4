-- The least common multiple, and how the cycle of a list goes on from job to job.
use mathlib.Core.Path.{◌≡◌, refl, sym, ◌∙◌, ap}
use mathlib.Core.Logic.{◌⊎◌, inl, inr}
use mathlib.Core.List.{List, [], ◌∷◌}
use Prim.Native.Nat.{ℕ, zero, suc, ◌+◌, ◌*◌, ◌/◌, ◌≤◌, ◌<◌, ◌∣◌}
use native.Mathlib.Nat.{mul_comm, mul-pos, mul-le-mul, le_trans, le_antisymm, div-le_self, div-mul_cancel, eq-zero-or-pos, one-dvd, dvd_refl, dvd-zero, dvd_trans, dvd-mul_left, dvd-mul_right, mul-dvd-mul_left, mul-dvd-mul_right, dvd_of_mul-dvd-mul_right, pos_of_dvd_of_pos, le_of_dvd}
use native.Mathlib.Numerals.{add-one}
use native.Mathlib.Decide.{le_ind}
use native.Mathlib.Omega.{arith}
use Rattle.std.proofs.lemmas.Bool.Decides.{nat_tests}
use Rattle.job.specs.declared.record.Job.{Job}
use Rattle.job.specs.declared.list.JobList.{JobList}
use Rattle.job.specs.declared.refusal.Refusal.{Refusal}
use Rattle.job.specs.Limit.{t_most, k_most, cycle_most}
use Rattle.job.specs.Told.{row, told}
use Rattle.job.specs.Check.{job_at}
use Rattle.job.specs.Sound.{SoundJob, SoundBelow, SoundList}
use Rattle.job.proofs.ToldLaws.{not_passed}
use Rattle.admission.specs.Divisor.{GreatestDivisor, gcd}
use Rattle.job.specs.Window.{window_of}
use Rattle.admission.specs.Cycle.{lcm, cycle_upto, cycle_of, within_told, cycle_told}
use Rattle.admission.specs.Judged.{CommonMultiple, LeastCommonMultiple}
use Rattle.admission.proofs.DivisorLaws.{divisor_unique, euclid_greatest, euclid_scaled}

-- the code divides by whatever is the greatest common divisor
pub lcm_by : (a b d : ℕ) → GreatestDivisor a b d → a / d * b ≡ lcm a b
unfolding lcm
lcm_by a b d s = ap (λ (g : ℕ). a / g * b) (divisor_unique a b d (gcd a b) s (euclid_greatest a b))

lcm_right : (a b : ℕ) → b ∣ lcm a b
unfolding lcm
lcm_right a b = dvd-mul_left b (a / gcd a b)

lcm_left : (a b : ℕ) → a ∣ lcm a b
unfolding lcm
lcm_left a b =
    let g = gcd a b in
    let left = div-mul_cancel g (euclid_greatest a b).left in
    let right = div-mul_cancel g (euclid_greatest a b).right in
    let whole : a / g * b ≡ a * (b / g) = omega (arith, ap (a / g *◌) right, ap (◌* (b / g)) left) in
    rw whole (dvd-mul_right a (b / g))

lcm_least : (a b x : ℕ) → a ∣ x → b ∣ x → lcm a b ∣ x
unfolding lcm
lcm_least a b x left right = go (eq-zero-or-pos x)
  where
    g : ℕ
    g = gcd a b

    divides : g ∣ a
    divides = (euclid_greatest a b).left

    go : (x ≡ 0) ⊎ (0 < x) → a / g * b ∣ x
    go (inl none) = rw none (dvd-zero (a / g * b))
    go (inr some) =
        let whole : a / g * b * g ≡ a * b = omega (arith, ap (◌* b) (div-mul_cancel g divides)) in
        let by-a : a * b ∣ x * a = rw (mul_comm x a) (mul-dvd-mul_left b a right) in
        let by-b : a * b ∣ x * b = mul-dvd-mul_right a left b in
        dvd_of_mul-dvd-mul_right (a / g * b) (pos_of_dvd_of_pos divides (pos_of_dvd_of_pos left some))
        (rw whole (euclid_scaled a b x (a * b) by-a by-b))

lcm_positive : {a b : ℕ} → 0 < a → 0 < b → 0 < lcm a b
lcm_positive {a} {b} left right =
    pos_of_dvd_of_pos (lcm_least a b (a * b) (dvd-mul_right a b) (dvd-mul_left b a)) (mul-pos left right)

-- the window of a sound job
pub window_positive : {j : Job} → SoundJob j → 0 < window_of j
window_positive s = mul-pos s.k.low s.t.low

pub window_most_lem : {j : Job} → SoundJob j → window_of j ≤ k_most * t_most
window_most_lem s = mul-le-mul s.k.high s.t.high

-- the cycle from job to job
pub cycle_none : (jobs : List Job) → cycle_upto jobs 0 ≡ 1
unfolding cycle_upto
cycle_none jobs = refl

pub cycle_more : (jobs : List Job) (i : ℕ) → cycle_upto jobs (i + 1) ≡ lcm (cycle_upto jobs i) (window_of (job_at jobs i))
unfolding cycle_upto
cycle_more jobs i = ap (cycle_upto jobs) (add-one i)

cycle_divides : (jobs : List Job) (i n : ℕ) → i ≤ n → cycle_upto jobs i ∣ cycle_upto jobs n
unfolding cycle_upto
cycle_divides jobs i n h =
    le_ind (λ (x : ℕ). cycle_upto jobs i ∣ cycle_upto jobs x) (dvd_refl (cycle_upto jobs i))
    (λ x l before. dvd_trans (cycle_upto jobs i) before (lcm_left (cycle_upto jobs x) (window_of (job_at jobs x))))
    n h

pub cycle_positive : (jobs : List Job) (n : ℕ) → SoundBelow jobs n → 0 < cycle_upto jobs n
unfolding cycle_upto
cycle_positive jobs zero s = omega arith
cycle_positive jobs (suc n) s =
    lcm_positive (cycle_positive jobs n (λ i h. s i (omega arith))) (window_positive (s n (omega arith)))

pub cycle_common : (l : JobList) → CommonMultiple l (cycle_of l)
unfolding cycle_upto
cycle_common l i h =
    let w = window_of (job_at l.jobs i) in
    dvd_trans w (lcm_right (cycle_upto l.jobs i) w) (cycle_divides l.jobs (suc i) l.count h)

pub cycle_least : (l : JobList) (x : ℕ) → CommonMultiple l x → cycle_of l ∣ x
unfolding cycle_upto
cycle_least l x common = go l.count common
  where
    go : (n : ℕ) → ((i : ℕ) → i < n → window_of (job_at l.jobs i) ∣ x) → cycle_upto l.jobs n ∣ x
    go zero h = one-dvd x
    go (suc n) h =
        lcm_least (cycle_upto l.jobs n) (window_of (job_at l.jobs n)) x (go n (λ i less. h i (omega arith))) (h n (omega arith))

-- a list has one least common multiple at most, and the cycle of a sound list is one
pub multiple_unique : {l : JobList} {h g : ℕ} → LeastCommonMultiple l h → LeastCommonMultiple l g → h ≡ g
multiple_unique {l} {h} {g} one other =
    le_antisymm (one.least g other.positive other.common) (other.least h one.positive one.common)

pub cycle_multiple : (l : JobList) → SoundList l → LeastCommonMultiple l (cycle_of l)
cycle_multiple l s =
    record {
      positive = cycle_positive l.jobs l.count s.jobs;
      common = cycle_common l;
      least = λ x some common. le_of_dvd some (cycle_least l x common);
    }

pub cycle_is : (l : JobList) {h : ℕ} → SoundList l → LeastCommonMultiple l h → h ≡ cycle_of l
cycle_is l s multiple = multiple_unique multiple (cycle_multiple l s)

pub next_fits : (h d : ℕ) {j : Job} → SoundJob j → h ≤ cycle_most → h / d * window_of j ≤ cycle_most * (k_most * t_most)
next_fits h d s short = mul-le-mul (le_trans (div-le_self h d) short) (window_most_lem s)

-- what is told of a cycle, and back
pub within_short : {h : ℕ} → h ≤ cycle_most → within_told h ≡ row 0 (h ∷ [])
unfolding within_told
within_short {h} short = grind (arith, nat_tests)

pub within_long : {h : ℕ} → cycle_most < h → within_told h ≡ row 8 []
unfolding within_told
within_long {h} long = grind (arith, nat_tests)

-- a cycle above the limit stays above it, since it divides the next and no cycle is 0
pub cycle_long :
    (l : JobList) (i : ℕ) → SoundList l → i ≤ l.count → cycle_most < cycle_upto l.jobs i → cycle_told l ≡ row 8 []
cycle_long l i s listed long =
    let grows : cycle_upto l.jobs i ≤ cycle_of l =
    le_of_dvd (cycle_positive l.jobs l.count s.jobs) (cycle_divides l.jobs i l.count listed) in
    within_long (omega arith)

pub told_short : {h x : ℕ} → row 0 (h ∷ []) ≡ within_told x → (h ≡ x) × (h ≤ cycle_most)
unfolding within_told
told_short {h} {x} e = grind (arith, nat_tests)

pub told_long : (x : ℕ) (r : Refusal) → told r ≡ within_told x → (cycle_most < x) × (told r ≡ row 8 [])
unfolding within_told
told_long x r e = grind (arith, nat_tests, not_passed r {values = x ∷ []})

-- from job to job: the next cycle is refused as the list's is
pub next_refused :
    (l : JobList) (i : ℕ) {h : ℕ} {j : Job} (r : Refusal) → SoundList l → i < l.count → h ≡ cycle_upto l.jobs i → j ≡ job_at l.jobs i
    → told r ≡ within_told (lcm h (window_of j)) → told r ≡ cycle_told l
next_refused l i {h} {j} r s listed same here e =
    let refused = told_long (lcm h (window_of j)) r e in
    let next : lcm h (window_of j) ≡ cycle_upto l.jobs (i + 1) = cc (cycle_more l.jobs i) in
    refused.1 ∙ sym (cycle_long l (i + 1) s (omega arith) (omega (arith, refused.0, next)))
