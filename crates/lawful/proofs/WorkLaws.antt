-- The work of a place whose service is kept by units, due within D slots, and what one slot leaves of it.
use mathlib.Core.Path.{◌≡◌, ◌∙◌}
use mathlib.Core.Bool.{Bool, true, false, cond}
use mathlib.Core.Logic.{◌⊎◌, inl, inr}
use Prim.Native.Nat.{ℕ, ◌+◌, ◌-◌, ◌*◌, ◌/◌, ◌≤◌, ◌<◌}
use native.Mathlib.Nat.{add-zero, sub-zero, mul-le-mul_left, div-mul-le_self}
use native.Mathlib.Omega.{arith}
use Rattle.job.specs.declared.record.Job.{Job}
use Rattle.job.specs.Sound.{SoundJob}
use Rattle.job.specs.Window.{window_of}
use Rattle.place.specs.declared.setting.Setting.{Setting}
use Rattle.place.specs.declared.record.Place.{Place}
use Rattle.place.specs.Opening.{opened}
use Rattle.place.specs.Setting.{by_units}
use Rattle.place.specs.Place.{left_of, eligible_of, window_ends, moved_of}
use Rattle.place.specs.Sound.{SoundPlace}
use Rattle.admission.proofs.CycleLaws.{window_positive}
use Rattle.place.proofs.PlaceLaws.{eligible_units}
use Rattle.place.proofs.CounterLaws.{worked}
use Rattle.place.proofs.WindowLaws.{Stays, Ends, opened_left, moved_view}
use Rattle.lawful.proofs.AmountLaws.{amount, amount_in, amount_out, amount_shift, amount_more, amount_new, amount_last, amount_bound, lack_within_share}
use Rattle.lawful.proofs.UnitLaws.{used_of, not_eligible, left_more}

-- 'm times C units per window'
abbrev pub service_of : Job → ℕ
service_of j = j.m * j.c

-- due within D slots
abbrev pub due_of : Place → ℕ → ℕ
due_of q D = amount (window_of q.job) (service_of q.job) (left_of q) (service_of q.job - q.at.u) D

-- what the window lacks that ends with the slot
unfoldable pub missed_of : Place → Bool → ℕ
missed_of q chosen = cond (window_ends q) (service_of q.job - used_of q chosen) 0

-- the slot leaves what is due within D slots after it, and what is missed
abbrev pub leaves_of : Setting → Place → Bool → ℕ → ℕ
leaves_of setting q chosen D = due_of (moved_of setting q chosen).place D + missed_of q chosen

-- where a window opens
pub due_opened : {j : Job} (D : ℕ) → SoundJob j → due_of (opened j) D ≡ D / window_of j * service_of j
due_opened {j} D sound =
    rw (opened_left sound, sub-zero) (amount_new (window_of j) (service_of j) D (window_positive sound))

used_least : (q : Place) (chosen : Bool) → q.at.u ≤ used_of q chosen
used_least q true = omega arith
used_least q false = omega arith

module _ (q : Place) (chosen : Bool) where
  missed_open : window_ends q ≡ false → missed_of q chosen ≡ 0
  unfolding missed_of
  missed_open open_still = rw open_still

  pub missed_over : window_ends q ≡ true → missed_of q chosen ≡ service_of q.job - used_of q chosen
  unfolding missed_of
  missed_over over = rw over

  abbrev lack : ℕ
  lack = service_of q.job - used_of q chosen

  abbrev within : ℕ → ℕ → ℕ
  within left D = amount (window_of q.job) (service_of q.job) left lack D

  -- what is due after the slot, by the numbers before it
  module _ {setting : Setting} (units : by_units setting ≡ true) {r : Place} (D : ℕ) where
    stays_due : Stays setting q chosen r → due_of r D + missed_of q chosen ≡ within (left_of r) D
    stays_due s = rw (missed_open s.open_still, s.same_job, s.same_u ∙ (worked setting q chosen).u_more units, add-zero)

    stays_earlier : Stays setting q chosen r → due_of r D + missed_of q chosen ≡ within (left_of q) (D + 1)
    stays_earlier s = stays_due s ∙ rw s.one_less (amount_shift (window_of q.job) (service_of q.job) (left_of r) lack D)

  ends_due :
      {r : Place} (D : ℕ) → Ends q r → SoundJob q.job
      → due_of r D + missed_of q chosen ≡ D / window_of q.job * service_of q.job + lack
  ends_due D s sound = rw (s.opens, due_opened D sound, missed_over s.over)

module _ {setting : Setting} {q : Place} (sound : SoundPlace setting q) (units : by_units setting ≡ true) where
  abbrev window : ℕ
  window = window_of q.job

  abbrev service : ℕ
  service = service_of q.job

  -- a place that is not eligible lacks no more than its share of the slots left
  idle_lack :
      (chosen : Bool) (left : ℕ) → eligible_of setting q ≡ false → (q.job.k - q.at.p) * q.job.t ≤ left
      → lack q chosen * window ≤ service * left
  idle_lack chosen left e rest = go (not_eligible setting q units e)
    where
      go : (service ≤ q.at.u) ⊎ (q.at.p * q.job.c ≤ q.at.u) → lack q chosen * window ≤ service * left
      go (inl done) =
          let none : lack q chosen ≡ 0 = omega (arith, used_least q chosen) in
          rw none (omega arith)
      go (inr had) =
          lack_within_share q.job.c q.job.t q.job.m q.job.k q.at.p (used_of q chosen) left
          sound.job.m.high sound.period.high (omega (arith, used_least q chosen)) rest

  module _ (chosen : Bool) (D : ℕ) where
    abbrev leaves : ℕ
    leaves = leaves_of setting q chosen D

    abbrev View : Type 0
    View = Stays setting q chosen (moved_of setting q chosen).place ⊎ Ends q (moved_of setting q chosen).place

    view : View
    view = moved_view sound chosen

    -- a slot never adds to what is due
    pub keeps : leaves ≤ due_of q (D + 1)
    keeps = go view
      where
        fewer : lack q chosen ≤ service - q.at.u
        fewer = omega (arith, used_least q chosen)

        go : View → leaves ≤ due_of q (D + 1)
        go (inl s) = rw (stays_earlier q chosen units D s) (amount_more window service (left_of q) (D + 1) fewer)
        go (inr s) =
            rw (ends_due q chosen D s sound.job, s.last_slot, amount_last window service (service - q.at.u) D)
            (omega (arith, fewer))

    -- a place whose window ends later has nothing due
    pub far : D + 1 < left_of q → leaves ≡ 0
    far late = go view
      where
        go : View → leaves ≡ 0
        go (inl s) = stays_earlier q chosen units D s ∙ amount_out window service (lack q chosen) late
        go (inr s) = absurd (omega (arith, s.last_slot))

    -- a place that is not eligible has no more than its share of D slots due, whether the slot is given to it or not
    pub idles : eligible_of setting q ≡ false → leaves * window ≤ service * D
    idles e = go view
      where
        go : View → leaves * window ≤ service * D
        go (inl s) =
            rw (stays_due q chosen units D s)
            (amount_bound window service (left_of (moved_of setting q chosen).place) (lack q chosen) D
            (idle_lack chosen (left_of (moved_of setting q chosen).place) e (omega (arith, left_more sound, s.one_less))))
        go (inr s) =
            let no-period : q.job.k - q.at.p ≡ 0 = omega (arith, s.last_period) in
            let none : (q.job.k - q.at.p) * q.job.t ≤ 0 = rw no-period (omega arith) in
            rw (ends_due q chosen D s sound.job)
            (omega (arith, idle_lack chosen 0 e none, mul-le-mul_left service (div-mul-le_self D window)))

  -- a slot given is one less due
  pub spends : (D : ℕ) → eligible_of setting q ≡ true → left_of q ≤ D + 1 → leaves_of setting q true D + 1 ≤ due_of q (D + 1)
  spends D eligible soon = go (view true D)
    where
      some : q.at.u < service
      some = (eligible_units setting q units eligible).0

      go : View true D → leaves_of setting q true D + 1 ≤ due_of q (D + 1)
      go (inl s) =
          rw (
            stays_earlier q true units D s,
            amount_in window service (lack q true) soon,
            amount_in window service (service - q.at.u) soon,
          )
          (omega (arith, some))
      go (inr s) =
          rw (ends_due q true D s sound.job, s.last_slot, amount_last window service (service - q.at.u) D)
          (omega (arith, some))
