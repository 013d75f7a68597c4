-- One place over one slot: it stays in its window, or its window ends and the next one opens.
use mathlib.Core.Path.{◌≡◌, refl, ap}
use mathlib.Core.Bool.{Bool, true, false}
use mathlib.Core.Logic.{◌⊎◌, inl, inr}
use Prim.Native.Nat.{ℕ, ◌+◌, ◌-◌, ◌*◌, ◌≤◌, ◌<◌}
use native.Mathlib.Decide.{dec_lt}
use native.Mathlib.Omega.{arith}
use lib.Dec.{eqb}
use borrow.Author.Tests.{eqb-true, eq-eqb, ne_eqb}
use Rattle.job.specs.declared.record.Job.{Job}
use Rattle.job.specs.Sound.{SoundJob}
use Rattle.job.specs.Window.{window_of}
use Rattle.job.proofs.TestLaws.{both}
use Rattle.place.specs.declared.setting.Setting.{Setting}
use Rattle.place.specs.declared.record.Place.{Place}
use Rattle.place.specs.Opening.{opened}
use Rattle.place.specs.Place.{window_left, left_of, worked_of, window_ends, moved_of}
use Rattle.place.specs.Sound.{SoundPlace}
use Rattle.place.proofs.CounterLaws.{Served, worked, turned_on, turned_period, turned_window}

-- place r is place q a slot later in the same window, with its service and tag when the slot was given, or not
pub record Stays (setting : Setting) (q : Place) (chosen : Bool) (r : Place) : Type 0 where
  pub same_job : r.job ≡ q.job
  pub one_less : left_of q ≡ left_of r + 1
  pub same_u : r.at.u ≡ (worked_of setting q chosen).at.u
  pub same_s : r.at.s ≡ (worked_of setting q chosen).at.s
  pub same_tag : r.at.tag ≡ (worked_of setting q chosen).at.tag
  pub open_still : window_ends q ≡ false

-- .. or at the opening of the next
pub record Ends (q r : Place) : Type 0 where
  pub opens : r ≡ opened q.job
  pub last_slot : left_of q ≡ 1
  pub last_period : q.at.p ≡ q.job.k
  pub over : window_ends q ≡ true

-- the slots left, on the numbers of a place: a period's last slot, where another follows or none
next_period_left : (k p t e : ℕ) → e + 1 ≡ t → p < k → (k - p + 1) * t - e ≡ (k - (p + 1) + 1) * t - 0 + 1
next_period_left k p t e last more =
    let fewer : k - (p + 1) + 1 ≡ k - p = omega arith in
    omega (arith, ap (◌* t) fewer)

last_left : (k p t e : ℕ) → e + 1 ≡ t → p ≡ k → (k - p + 1) * t - e ≡ 1
last_left k p t e last final =
    let one : k - p + 1 ≡ 1 = omega arith in
    omega (arith, ap (◌* t) one)

opening_left : (k t : ℕ) → 1 ≤ k → (k - 1 + 1) * t - 0 ≡ k * t
opening_left k t low =
    let all : k - 1 + 1 ≡ k = omega arith in
    omega (arith, ap (◌* t) all)

pub opened_left : {j : Job} → SoundJob j → left_of (opened j) ≡ window_of j
unfolding left_of window_left
opened_left {j} sound = opening_left j.k j.t sound.k.low

pub window_last : (q : Place) → window_ends q ≡ true → left_of q ≡ 1
unfolding window_ends left_of window_left
window_last q over =
    let tests = both (eqb (q.at.e + 1) q.job.t) (eqb q.at.p q.job.k) over in
    last_left q.job.k q.at.p q.job.t q.at.e (eqb-true (q.at.e + 1) q.job.t tests.0)
    (eqb-true q.at.p q.job.k tests.1)

module _ {setting : Setting} {q : Place} (sound : SoundPlace setting q) (chosen : Bool) where
  -- the place when its slot was given, or not
  abbrev given : Place
  given = worked_of setting q chosen

  served : Served setting q chosen given
  served = worked setting q chosen

  t_given : given.job.t ≡ q.job.t
  t_given = ap (λ (x : Job). x.t) served.same_job

  k_given : given.job.k ≡ q.job.k
  k_given = ap (λ (x : Job). x.k) served.same_job

  abbrev next : Place
  next = (moved_of setting q chosen).place

  pub moved_view : Stays setting q chosen next ⊎ Ends q next
  unfolding moved_of left_of window_left window_ends
  moved_view = go (dec_lt (q.at.e + 1) q.job.t) (dec_lt q.at.p q.job.k)
    where
      go : Dec (q.at.e + 1 < q.job.t) → Dec (q.at.p < q.job.k) → Stays setting q chosen next ⊎ Ends q next
      go (yes inside) d =
          rw (turned_on given (omega (arith, served.same_e, t_given)))
          (inl
          (record {
            same_job = served.same_job;
            one_less = rw (served.same_job, served.same_e, served.same_p) (omega (arith, sound.period.high));
            same_u = refl;
            same_s = refl;
            same_tag = refl;
            open_still = rw (ne_eqb (q.at.e + 1) q.job.t (omega arith));
          }))
      go (no ends) (yes more) =
          let last : q.at.e + 1 ≡ q.job.t = omega (arith, sound.e_high) in
          rw
          (turned_period given (omega (arith, served.same_e, t_given)) (omega (arith, served.same_p, k_given)))
          (inl
          (record {
            same_job = served.same_job;
            one_less =
                rw (served.same_job, served.same_p)
                (next_period_left q.job.k q.at.p q.job.t q.at.e last more);
            same_u = refl;
            same_s = refl;
            same_tag = refl;
            open_still = rw (eq-eqb (q.at.e + 1) q.job.t last, ne_eqb q.at.p q.job.k (omega arith));
          }))
      go (no ends) (no more) =
          let last : q.at.e + 1 ≡ q.job.t = omega (arith, sound.e_high) in
          let final : q.at.p ≡ q.job.k = omega (arith, sound.period.high) in
          rw
          (turned_window given (omega (arith, served.same_e, t_given)) (omega (arith, served.same_p, k_given)))
          (inr
          (record {
            opens = ap opened served.same_job;
            last_slot = last_left q.job.k q.at.p q.job.t q.at.e last final;
            last_period = final;
            over = rw (eq-eqb (q.at.e + 1) q.job.t last, eq-eqb q.at.p q.job.k final);
          }))
