-- A run in window order from the fresh state of a list is on time: no window of it misses any of its service.
use mathlib.Core.Path.{◌≡◌, refl, sym, ap, ◌∙◌}
use mathlib.Core.Bool.{Bool, true}
use mathlib.Core.List.{List}
use Prim.Native.Nat.{ℕ, zero, suc, ◌+◌, ◌*◌, ◌/◌, min, ◌≤◌, ◌<◌}
use native.Mathlib.Nat.{mul-le-mul_left, div-mul-le_self, div-mul_cancel}
use native.Mathlib.Omega.{arith}
use lib.Dec.{eqb}
use Rattle.job.specs.declared.record.Job.{Job}
use Rattle.job.specs.declared.list.JobList.{JobList}
use Rattle.job.specs.Limit.{count_most}
use Rattle.job.specs.Check.{job_at}
use Rattle.job.specs.Sound.{SoundList}
use Rattle.job.specs.Window.{window_of}
use Rattle.admission.specs.Load.{share_of, load_upto, load_of}
use Rattle.admission.specs.Judged.{CommonMultiple}
use Rattle.place.specs.declared.setting.Setting.{Setting}
use Rattle.place.specs.declared.record.Place.{Place}
use Rattle.place.specs.Setting.{order_w, by_units}
use Rattle.place.specs.Sound.{Allowed}
use Rattle.place.specs.Opening.{opened}
use Rattle.run.specs.declared.state.State.{State}
use Rattle.run.specs.State.{clock_most, fresh_of}
use Rattle.run.specs.Choice.{chosen_of}
use Rattle.run.specs.Sound.{SoundState}
use Rattle.run.specs.Run.{after_slots}
use Rattle.run.proofs.HereLaws.{at}
use Rattle.lawful.specs.DemandThree.{window_order}
use Rattle.run.proofs.FreshLaws.{fresh_at, fresh_sound}
use Rattle.run.proofs.RunLaws.{after_setting, after_count, after_sound}
use Rattle.rules.specs.Meaning.{sum_upto}
use Rattle.lawful.proofs.SumLaws.{sum_same, sum_bound}
use Rattle.lawful.proofs.AmountLaws.{by_share}
use Rattle.lawful.proofs.WorkLaws.{service_of, due_of, missed_of, due_opened}
use Rattle.lawful.proofs.DueLaws.{load_in, OnTime, on_time_next, none_missed}

-- the load as a sum
pub load_sum : (jobs : List Job) (N n : ℕ) → load_upto jobs N n ≡ sum_upto (λ i. share_of (job_at jobs i) N) n
unfolding load_upto sum_upto
load_sum jobs N zero = refl
load_sum jobs N (suc n) = ap (◌+ share_of (job_at jobs n) N) (load_sum jobs N n)

-- the fresh state
module _ (l : JobList) (setting : Setting) (sound : SoundList l) where
  abbrev started : State
  started = fresh_of l setting

  fresh_place : (i : ℕ) → i < l.count → at started i ≡ opened (job_at l.jobs i)
  fresh_place i h = fresh_at l.jobs (min l.count count_most) i (omega (arith, sound.count.high)) (omega arith)

  fresh_job : (i : ℕ) → i < l.count → (at started i).job ≡ job_at l.jobs i
  fresh_job i h = ap (λ (q : Place). q.job) (fresh_place i h)

  fresh_load : (N : ℕ) → load_in started N ≡ load_of l N
  fresh_load N =
      sum_same l.count (λ i h. ap (λ (j : Job). share_of j N) (fresh_job i h)) ∙ sym (load_sum l.jobs N l.count)

  module _ (N : ℕ) (common : CommonMultiple l N) where
    whole : (i : ℕ) → i < l.count → N / window_of (at started i).job * window_of (at started i).job ≡ N
    whole i h = rw (fresh_job i h) (div-mul_cancel (window_of (job_at l.jobs i)) (common i h))

    fresh_due : (D i : ℕ) → i < l.count → N * due_of (at started i) D ≤ share_of (at started i).job N * D
    fresh_due D i h =
        let j : Job = job_at l.jobs i in
        let even : due_of (opened j) D * window_of j ≤ service_of j * D =
        rw (due_opened D (sound.jobs i h)) (omega (arith, mul-le-mul_left (service_of j) (div-mul-le_self D (window_of j)))) in
        rw (fresh_place i h)
        (by_share N (window_of j) (service_of j) D (due_of (opened j) D) (div-mul_cancel (window_of j) (common i h)) even)

    fresh_on_time : load_of l N ≤ N → OnTime N started
    fresh_on_time fits =
        record {
          whole = whole;
          loaded = omega (arith, fresh_load N);
          bound =
              λ D.
              sum_bound (λ i. due_of (at started i) D) (λ i. share_of (at started i).job N) N D l.count (fresh_due D);
        }

-- window order is allowed
pub window_allowed : {spare : Bool} → Allowed (window_order spare)
window_allowed = record { order = omega arith; model = omega arith }

-- the run: its state after n slots
abbrev pub run_of : Bool → JobList → ℕ → State
run_of spare l n = after_slots (fresh_of l (window_order spare)) n

module _ (spare : Bool) (l : JobList) where
  pub run_units : (n : ℕ) → by_units (run_of spare l n).setting ≡ true
  run_units n = ap by_units (after_setting (fresh_of l (window_order spare)) n)

  run_order : (n : ℕ) → (run_of spare l n).setting.order ≡ order_w
  run_order n = ap (λ (x : Setting). x.order) (after_setting (fresh_of l (window_order spare)) n)

  pub run_listed : (n : ℕ) {i : ℕ} → i < l.count → i < (run_of spare l n).count
  run_listed n listed = rw (after_count (fresh_of l (window_order spare)) n) listed

  module _ (sound : SoundList l) where
    pub run_sound : (n : ℕ) → n ≤ clock_most → SoundState (run_of spare l n)
    run_sound n high = after_sound (fresh_of l (window_order spare)) (fresh_sound l (window_order spare) sound window_allowed) n (omega arith)

    module _ (N : ℕ) (common : CommonMultiple l N) (fits : load_of l N ≤ N) where
      run_on_time : (n : ℕ) → n ≤ clock_most → OnTime N (run_of spare l n)
      unfolding after_slots
      run_on_time zero high = fresh_on_time l (window_order spare) sound N common fits
      run_on_time (suc n) high =
          on_time_next N (run_of spare l n) (run_sound n (omega arith)) (run_units n) (run_on_time n (omega arith)) (run_order n)

      pub run_none_missed :
          0 < N → (n : ℕ) → n ≤ clock_most → (i : ℕ) → i < l.count
          → missed_of (at (run_of spare l n) i) (eqb i (chosen_of (run_of spare l n))) ≡ 0
      run_none_missed some n high i listed =
          none_missed N (run_of spare l n) (run_sound n high) (run_units n) (run_on_time n high) (run_order n) some i
          (run_listed n listed)
