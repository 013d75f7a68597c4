-- What one slot makes of the counters of a place: its service and its tag, then the end of a period or of a window.
use mathlib.Core.Path.{◌≡◌, refl, ap}
use mathlib.Core.Bool.{Bool, true, false, ◌&&◌, ◌||◌, not, cond}
use Prim.Native.Nat.{◌+◌, ◌≤◌, ◌<◌}
use lib.Dec.{eqb}
use borrow.Author.Tests.{lt-ltb, le-ltb}
use Rattle.job.proofs.TestLaws.{clash}
use Rattle.place.specs.declared.setting.Setting.{Setting}
use Rattle.place.specs.declared.record.Place.{Place}
use Rattle.place.specs.Setting.{by_units}
use Rattle.place.specs.Opening.{opened}
use Rattle.place.specs.Place.{at_slot, with_service, with_tag, served_of, tags_of, first_tagged, given_of, tagged_of, worked_of, window_ends, turned_of}
use Rattle.place.proofs.CondLaws.{by_test}

-- place r is place q after its slot was given to it, or not, and tagged it, or not
pub record Served (setting : Setting) (q : Place) (chosen : Bool) (r : Place) : Type 0 where
  pub same_job : r.job ≡ q.job
  pub same_e : r.at.e ≡ q.at.e
  pub same_p : r.at.p ≡ q.at.p
  pub u_more : by_units setting ≡ true → r.at.u ≡ cond chosen (q.at.u + 1) q.at.u
  pub v_more : by_units setting ≡ false → r.at.v ≡ cond chosen (q.at.v + 1) q.at.v
  pub s_more :
      by_units setting ≡ false
      → r.at.s ≡ cond chosen (cond (eqb (q.at.v + 1) q.job.c) (q.at.s + 1) q.at.s) q.at.s

pub worked : (setting : Setting) (q : Place) (chosen : Bool) → Served setting q chosen (worked_of setting q chosen)
unfolding worked_of given_of served_of
worked setting q true =
    by_test (λ (r : Place). Served setting q true (tagged_of r (tags_of setting q true))) (by_units setting)
    (λ e.
    record {
      same_job = refl;
      same_e = refl;
      same_p = refl;
      u_more = λ is. refl;
      v_more = λ is. absurd (clash is e);
      s_more = λ is. absurd (clash is e);
    })
    (λ e.
    record {
      same_job = refl;
      same_e = refl;
      same_p = refl;
      u_more = λ is. absurd (clash e is);
      v_more = λ is. refl;
      s_more = λ is. refl;
    })
worked setting q false =
    record {
      same_job = refl;
      same_e = refl;
      same_p = refl;
      u_more = λ is. refl;
      v_more = λ is. refl;
      s_more = λ is. refl;
    }

pub worked_ends : (setting : Setting) (q : Place) (chosen : Bool) → window_ends (worked_of setting q chosen) ≡ window_ends q
unfolding window_ends
worked_ends setting q chosen = let w = worked setting q chosen in rw (w.same_job, w.same_e, w.same_p)

given_tag : (setting : Setting) (q : Place) (chosen : Bool) → (given_of setting q chosen).at.tag ≡ q.at.tag
unfolding given_of served_of
given_tag setting q chosen =
    by_test (λ (r : Place). r.at.tag ≡ q.at.tag) chosen
    (λ c. by_test (λ (r : Place). r.at.tag ≡ q.at.tag) (by_units setting) (λ e. refl) (λ e. refl)) (λ c. refl)

pub worked_tag : (setting : Setting) (q : Place) (chosen : Bool) → (worked_of setting q chosen).at.tag ≡ (tags_of setting q chosen || q.at.tag)
unfolding worked_of
worked_tag setting q chosen = ap (tags_of setting q chosen ||◌) (given_tag setting q chosen)

-- who is tagged already stays so: to know of a first tag is enough
pub tagged_first :
    (setting : Setting) (q : Place) (chosen : Bool)
    → tagged_of (given_of setting q chosen) (first_tagged setting q chosen) ≡ worked_of setting q chosen
unfolding worked_of first_tagged
tagged_first setting q chosen =
    ap (with_tag (given_of setting q chosen)) (rw (given_tag setting q chosen) (go (tags_of setting q chosen) q.at.tag))
  where
    go : (tags t : Bool) → ((tags && not t) || t) ≡ (tags || t)
    go true true = refl
    go true false = refl
    go false t = refl

module _ (q : Place) where
  pub turned_on : q.at.e + 1 < q.job.t → turned_of q ≡ at_slot q (q.at.e + 1) q.at.p
  unfolding turned_of
  turned_on h = rw (lt-ltb (q.at.e + 1) q.job.t h)

  pub turned_period :
      q.job.t ≤ q.at.e + 1 → q.at.p < q.job.k
      → turned_of q ≡ with_service (at_slot q 0 (q.at.p + 1)) q.at.u q.at.s 0
  unfolding turned_of
  turned_period h more = rw (le-ltb (q.at.e + 1) q.job.t h, lt-ltb q.at.p q.job.k more)

  pub turned_window : q.job.t ≤ q.at.e + 1 → q.job.k ≤ q.at.p → turned_of q ≡ opened q.job
  unfolding turned_of
  turned_window h last = rw (le-ltb (q.at.e + 1) q.job.t h, le-ltb q.at.p q.job.k last)
