-- The invariant of a run in window order: within D slots no more is due than the load's share of D.
use mathlib.Core.Path.{◌≡◌, refl, ap, ◌∙◌}
use mathlib.Core.Bool.{Bool, true, false}
use Prim.Native.Nat.{ℕ, ◌+◌, ◌*◌, ◌/◌, ◌≤◌, ◌<◌}
use native.Mathlib.Nat.{mul-le-mul_left, le_of_mul-le-mul_left}
use native.Mathlib.Decide.{dec_le}
use native.Mathlib.Omega.{arith}
use lib.Dec.{eqb}
use borrow.Author.Tests.{eq-eqb}
use Rattle.job.specs.declared.record.Job.{Job}
use Rattle.job.specs.Window.{window_of}
use Rattle.admission.specs.Load.{share_of}
use Rattle.place.specs.declared.record.Place.{Place}
use Rattle.place.specs.Setting.{order_w, by_units}
use Rattle.place.specs.Place.{left_of, eligible_of}
use Rattle.run.specs.declared.state.State.{State}
use Rattle.run.specs.Choice.{chosen_of}
use Rattle.run.specs.Slot.{turn_of}
use Rattle.run.specs.Sound.{SoundState}
use Rattle.job.proofs.TestLaws.{clash, refuted}
use Rattle.place.proofs.PlaceLaws.{eligible_candidate, moved_job}
use Rattle.run.proofs.HereLaws.{at, job_sound}
use Rattle.run.proofs.ChoiceLaws.{ChoiceView, none_chosen, one_chosen, choice_view, window_order_lem}
use Rattle.run.proofs.KeepLaws.{turn_place}
use Rattle.run.proofs.TurnLaws.{turn_count}
use Rattle.rules.specs.Meaning.{sum_upto}
use Rattle.lawful.proofs.SumLaws.{sum_same, sum_most, sum_less, sum_bound, sum_none}
use Rattle.lawful.proofs.AmountLaws.{by_share}
use Rattle.lawful.proofs.WorkLaws.{service_of, due_of, missed_of, leaves_of, keeps, far, idles, spends}

-- due within D slots, over all places; and the load of their jobs in N slots
abbrev pub due_in : State → ℕ → ℕ
due_in s D = sum_upto (λ i. due_of (at s i) D) s.count

abbrev pub load_in : State → ℕ → ℕ
load_in s N = sum_upto (λ i. share_of (at s i).job N) s.count

-- N slots are whole windows of every job and hold the load; and N times what is due within D slots is within D times the load
pub record OnTime (N : ℕ) (s : State) : Type 0 where
  pub whole : (i : ℕ) → i < s.count → N / window_of (at s i).job * window_of (at s i).job ≡ N
  pub loaded : load_in s N ≤ N
  pub bound : (D : ℕ) → N * due_in s D ≤ load_in s N * D

abbrev IsEligible : State → ℕ → Type 0
IsEligible s i = eligible_of s.setting (at s i) ≡ true

-- all that an order has to promise of place a, which it serves: no place is eligible, or a is and no eligible window ends sooner
data Soonest (s : State) (a : ℕ) : Type 0 where
  none_eligible : ((i : ℕ) → i < s.count → eligible_of s.setting (at s i) ≡ false) → Soonest s a
  first_ending :
      a < s.count → IsEligible s a
      → ((i : ℕ) → i < s.count → IsEligible s i → left_of (at s a) ≤ left_of (at s i)) → Soonest s a

window_soonest : (s : State) → SoundState s → s.setting.order ≡ order_w → Soonest s (chosen_of s)
window_soonest s sound order = go (chosen_of s) (choice_view s)
  where
    go : (a : ℕ) → ChoiceView s a → Soonest s a
    go a (none_chosen none) =
        none_eligible (λ i h. refuted (λ e. clash (none i h) (eligible_candidate s.setting (at s i) e)))
    go a (one_chosen j c) = by (eligible_of s.setting (at s j)) refl
      where
        by : (b : Bool) → eligible_of s.setting (at s j) ≡ b → Soonest s j
        by true e = first_ending c.listed e (λ i h f. (window_order_lem s sound order c i h f).1)
        by false e = none_eligible (λ i h. refuted (λ f. clash e (window_order_lem s sound order c i h f).0))

module _ (N : ℕ) (s : State) (sound : SoundState s) (units : by_units s.setting ≡ true) (time : OnTime N s) where
  -- what the slot leaves of place i, if place a is served
  abbrev leaves : ℕ → ℕ → ℕ → ℕ
  leaves a D i = leaves_of s.setting (at s i) (eqb i a) D

  -- where no eligible window ends within the slot and D more, whoever is served
  calm :
      (a D : ℕ) → ((i : ℕ) → i < s.count → IsEligible s i → D + 1 < left_of (at s i))
      → N * sum_upto (leaves a D) s.count ≤ load_in s N * D
  calm a D late =
      sum_bound (leaves a D) (λ i. share_of (at s i).job N) N D s.count
      (λ i h.
      by_share N (window_of (at s i).job) (service_of (at s i).job) D (leaves a D i) (time.whole i h)
      (share i h (eligible_of s.setting (at s i)) refl))
    where
      share :
          (i : ℕ) → i < s.count → (b : Bool) → eligible_of s.setting (at s i) ≡ b
          → leaves a D i * window_of (at s i).job ≤ service_of (at s i).job * D
      share i h true e = rw (far (job_sound sound i h) units (eqb i a) D (late i h e)) (omega arith)
      share i h false e = idles (job_sound sound i h) units (eqb i a) D e

  slot_leaves : (a : ℕ) → Soonest s a → (D : ℕ) → N * sum_upto (leaves a D) s.count ≤ load_in s N * D
  slot_leaves a (none_eligible none) D = calm a D (λ i h e. absurd (clash (none i h) e))
  slot_leaves a (first_ending listed eligible sooner) D = go (dec_le (left_of (at s a)) (D + 1))
    where
      go : Dec (left_of (at s a) ≤ D + 1) → N * sum_upto (leaves a D) s.count ≤ load_in s N * D
      go (yes soon) =
          let spent : leaves a D a + 1 ≤ due_of (at s a) (D + 1) =
          rw (eq-eqb a a refl) (spends (job_sound sound a listed) units D eligible soon) in
          let less : sum_upto (leaves a D) s.count + 1 ≤ due_in s (D + 1) =
          sum_less s.count a listed (λ i h. keeps (job_sound sound i h) units (eqb i a) D) spent in
          omega (arith, mul-le-mul_left N less, time.bound (D + 1), time.loaded)
      go (no late) = calm a D (λ i h e. omega (arith, sooner i h e))

  -- after the slot
  module _ (order : s.setting.order ≡ order_w) where
    abbrev after : State
    after = (turn_of s).state

    same_job : (i : ℕ) → i < s.count → (at after i).job ≡ (at s i).job
    same_job i h =
        ap (λ (q : Place). q.job) (turn_place s sound i h) ∙ moved_job s.setting (at s i) (eqb i (chosen_of s))

    same_load : load_in after N ≡ load_in s N
    same_load = rw (turn_count s) (sum_same s.count (λ i h. ap (λ (j : Job). share_of j N) (same_job i h)))

    within_load : (D : ℕ) → N * sum_upto (leaves (chosen_of s) D) s.count ≤ load_in s N * D
    within_load = slot_leaves (chosen_of s) (window_soonest s sound order)

    due_after : (D : ℕ) → due_in after D ≤ sum_upto (leaves (chosen_of s) D) s.count
    due_after D = rw (turn_count s) (sum_most s.count (λ i h. rw (turn_place s sound i h) (omega arith)))

    pub on_time_next : OnTime N after
    on_time_next =
        record {
          whole =
              λ i h.
              let listed : i < s.count = rw (turn_count s) at h in
              rw (same_job i listed) (time.whole i listed);
          loaded = omega (arith, same_load, time.loaded);
          bound = λ D. rw same_load (omega (arith, within_load D, mul-le-mul_left N (due_after D)));
        }

    -- nothing is due within 0 slots, so nothing was missed
    pub none_missed : 0 < N → (i : ℕ) → i < s.count → missed_of (at s i) (eqb i (chosen_of s)) ≡ 0
    none_missed some i listed =
        let all : ℕ = sum_upto (leaves (chosen_of s) 0) s.count in
        let nothing : all ≤ 0 = le_of_mul-le-mul_left {n = 0} (omega (arith, within_load 0)) some in
        omega (arith, sum_none (leaves (chosen_of s) 0) s.count (omega arith) i listed)
