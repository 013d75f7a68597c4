-- Which of two candidates is chosen before the other: all that a search, and what is said of its choice, rests on.
use mathlib.Core.Path.{◌≡◌, refl, sym, ◌∙◌}
use mathlib.Core.Bool.{Bool, true, false, ◌&&◌, cond}
use mathlib.Core.Logic.{⊎_elim}
use Prim.Native.Nat.{ℕ, ◌+◌, ◌*◌, ◌≤◌, ◌<◌}
use native.Mathlib.Nat.{le_refl, mul-le-mul}
use native.Mathlib.Omega.{arith}
use lib.Dec.{ltb}
use borrow.Author.Tests.{ltb-false, lt-ltb, ne_eqb}
use Rattle.job.proofs.TestLaws.{clash}
use Rattle.place.specs.declared.setting.Setting.{Setting}
use Rattle.place.specs.declared.record.Place.{Place}
use Rattle.place.specs.declared.inner.choice.Fraction.{Fraction}
use Rattle.place.specs.Setting.{order_v, order_w, in_order_v}
use Rattle.place.specs.Place.{left_of, eligible_of}
use Rattle.place.specs.Choice.{takes_spare, candidate_of, window_most, due_away, spare_away, distance_of, nearer_of, sooner_of, held_of, nobody, better_of}
use Rattle.place.specs.Sound.{SoundPlace}
use Rattle.place.proofs.CondLaws.{by_test}
use Rattle.place.proofs.PlaceLaws.{candidate_either, eligible_owed, spare_not_due}
use Rattle.place.proofs.BoundLaws.{due_high, left_low}
use Rattle.place.proofs.DistanceLaws.{side, nearer_is, ltb_shift, nearer_self, nearer_back, nearer_through, nobody_farther}

module _ (setting : Setting) where
  due_den : (q : Place) → eligible_of setting q ≡ true → 0 < (due_away setting q).den
  unfolding due_away
  due_den q eligible =
      by_test (λ (d : Fraction). 0 < d.den) (in_order_v setting) (λ e. eligible_owed setting q eligible) (λ e. omega arith)

  candidate_den : (q : Place) → candidate_of setting q ≡ true → 0 < (distance_of setting q).den
  unfolding distance_of
  candidate_den q candidate = by_test (λ (d : Fraction). 0 < d.den) (eligible_of setting q) (due_den q) (λ e. omega arith)

  -- it is strict, and who is not before another is behind whatever that is behind

  pub sooner_self : (q : Place) → sooner_of setting q q ≡ false
  unfolding sooner_of
  sooner_self q = nearer_self (distance_of setting q)

  pub sooner_back : (q r : Place) → sooner_of setting q r ≡ true → sooner_of setting r q ≡ false
  unfolding sooner_of
  sooner_back q r = nearer_back (distance_of setting q) (distance_of setting r)

  pub sooner_through :
      (a b c : Place) → candidate_of setting c ≡ true → sooner_of setting a b ≡ true → sooner_of setting c b ≡ false
      → sooner_of setting a c ≡ true
  unfolding sooner_of
  sooner_through a b c candidate =
      nearer_through (distance_of setting a) (distance_of setting b) (distance_of setting c) (candidate_den c candidate)

  -- a search goes by it alone

  pub better_held :
      (i j : ℕ) (q r : Place)
      → better_of setting (held_of setting j r) i q
      ≡ cond (candidate_of setting q && sooner_of setting q r) (held_of setting i q) (held_of setting j r)
  unfolding better_of sooner_of
  better_held i j q r = refl

  pub better_nobody : (i : ℕ) (q : Place) → better_of setting nobody i q ≡ cond (candidate_of setting q) (held_of setting i q) nobody
  unfolding better_of
  better_nobody i q = go (candidate_of setting q) refl
    where
      go :
          (b : Bool) → candidate_of setting q ≡ b
          → cond (b && nearer_of (distance_of setting q) nobody.away) (held_of setting i q) nobody ≡ cond b (held_of setting i q) nobody
      go true e = rw (nobody_farther (distance_of setting q) (candidate_den q e))
      go false e = refl

-- the eligible by their deadlines, before all who take a spare slot, and these by the ends of their windows

module _ (setting : Setting) (q r : Place) where
  pub due_sooner :
      eligible_of setting q ≡ true → eligible_of setting r ≡ true → sooner_of setting q r ≡ nearer_of (due_away setting q) (due_away setting r)
  unfolding sooner_of distance_of
  due_sooner e f = rw (e, f)

  pub spare_sooner :
      takes_spare setting q ≡ true → takes_spare setting r ≡ true → sooner_of setting q r ≡ ltb (left_of q) (left_of r)
  unfolding sooner_of distance_of
  spare_sooner e f =
      rw (spare_not_due setting q e, spare_not_due setting r f)
      (nearer_is (spare_away q) (spare_away r)
      ∙ ltb_shift (side (spare_away q) (spare_away r)) (side (spare_away r) (spare_away q)) (left_of q) (left_of r) 0 window_most (omega arith) (omega arith))

  pub due_first :
      SoundPlace setting q → SoundPlace setting r → eligible_of setting q ≡ true → takes_spare setting r ≡ true → sooner_of setting q r ≡ true
  unfolding sooner_of distance_of
  due_first sound-q sound-r e f =
      let a : Fraction = due_away setting q in
      let far : ℕ = window_most + left_of r in
      let more = mul-le-mul {n₁ = far} {m₁ = 1} {n₂ = far} {m₂ = a.den} (le_refl far) (due_den setting q e) in
      rw (e, spare_not_due setting r f)
      (nearer_is a (spare_away r)
      ∙ lt-ltb (side a (spare_away r)) (side (spare_away r) a) (omega (arith, due_high sound-q, left_low sound-r)))

-- 'Order W: soonest window end': where some are eligible, one of them is chosen whose window ends no later
module _
    {setting : Setting} {q r : Place} (sound-q : SoundPlace setting q) (sound-r : SoundPlace setting r) (order : setting.order ≡ order_w)
    (eligible : eligible_of setting r ≡ true) (behind : sooner_of setting r q ≡ false)
  where
    ends_first : eligible_of setting q ≡ true → left_of q ≤ left_of r
    unfolding due_away nearer_of
    ends_first due =
        let order-test : in_order_v setting ≡ false = ne_eqb setting.order order_v (omega arith) in
        let h = ltb-false (left_of r * 1) (left_of q * 1) (simp order-test at (sym (due_sooner setting r q eligible due) ∙ behind)) in
        omega arith

    pub window_first : candidate_of setting q ≡ true → (eligible_of setting q ≡ true) × (left_of q ≤ left_of r)
    window_first candidate =
        ⊎_elim (λ due. (due, ends_first due)) (λ spare. absurd (clash behind (due_first setting r q sound-r sound-q eligible spare)))
        (candidate_either setting q candidate)
