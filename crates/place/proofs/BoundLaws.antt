-- What the numbers of a sound place keep to, so that nothing computed from them wraps.
use mathlib.Core.Path.{◌≡◌, refl, sym, ap, ◌∙◌}
use mathlib.Core.Logic.{◌↔◌}
use mathlib.Core.Bool.{Bool, true, false, ◌&&◌, cond, and-false}
use Prim.Native.Nat.{ℕ, ◌+◌, ◌-◌, ◌*◌, ◌/◌, ◌≤◌, ◌<◌}
use native.Mathlib.Nat.{mul-le-mul, mul-le-mul_left, mul-le-mul_right, div-lt_iff_lt-mul, mul_comm, div-le_of_le-mul, le_refl}
use native.Mathlib.Decide.{dec_le}
use native.Mathlib.Omega.{arith}
use lib.Dec.{leb, ltb, eqb}
use borrow.Author.Tests.{ltb-true, ltb-false, lt-ltb, le-ltb, leb-true, lt-leb, eq-eqb}
use lib.IntN.{pos, nat_abs, ◌-ℤ◌, ◌*ℤ◌}
use mir.Syntax.{w64}
use mir.Val.{SFits, to_z, of_z}
use mir.Facts.{to_z-of_z}
use Rattle.place.specs.declared.setting.Setting.{Setting}
use Rattle.place.specs.declared.record.Place.{Place}
use Rattle.place.specs.declared.inner.choice.Fraction.{Fraction}
use Rattle.place.specs.Setting.{by_units, in_order_v}
use Rattle.place.specs.Sound.{SoundPlace}
use Rattle.place.specs.Place.{window_left, left_of, finished_of, owed_of, eligible_of, numerator_of, overdue_of}
use Rattle.place.specs.Fraction.{Small}
use Rattle.place.specs.Choice.{window_most, virtual_away, window_away, due_away, spare_away, room_of, takes_spare}
use Rattle.job.proofs.TestLaws.{clash, both}
use Rattle.place.proofs.CondLaws.{by_test}
use Rattle.place.proofs.DistanceLaws.{plus, difference_plus, leb_shift}
use Rattle.place.proofs.SignedLaws.{abs_sub, abs_mul, abs_fits, small_pos, difference_most}

module _ {setting : Setting} {q : Place} (s : SoundPlace setting q) where
  pub mc_high : q.job.m * q.job.c ≤ 1044480
  mc_high = mul-le-mul {n₂ = 255} {m₂ = 4096} (omega arith) (omega arith)

  pub pc_high : q.at.p * q.job.c ≤ 1044480
  pc_high = mul-le-mul {n₂ = 255} {m₂ = 4096} (omega arith) (omega arith)

  -- one instance a period, at most
  finished_high : finished_of setting q ≤ q.at.p
  unfolding finished_of
  finished_high = go (by_units setting) refl
    where
      go : (b : Bool) → by_units setting ≡ b → cond b (q.at.u / q.job.c) q.at.s ≤ q.at.p
      go true e = div-le_of_le-mul q.job.c (rw mul_comm (s.service.by_units_lem e).u_p)
      go false e = (s.service.by_instances e).s_p

  pub owed_high : owed_of setting q ≤ 255
  unfolding owed_of
  owed_high = omega arith

  pub window_high : window_left q ≤ 1044480
  unfolding window_left
  window_high = mul-le-mul {n₂ = 255} {m₂ = 4096} (omega arith) (omega arith)

  -- at least this period is left
  pub window_low : q.job.t ≤ window_left q
  unfolding window_left
  window_low =
      omega
      (arith, mul-le-mul {n₁ = 1} {m₁ = q.job.t} {n₂ = q.job.k - q.at.p + 1} {m₂ = q.job.t} (omega arith) (le_refl q.job.t))

  pub left_high : left_of q ≤ 1044480
  unfolding left_of
  left_high = omega (arith, window_high)

  -- the window is not over
  pub left_low : 0 < left_of q
  unfolding left_of
  left_low = omega (arith, window_low, s.e_high)

  pub gone_high : q.at.e * owed_of setting q ≤ 1044480
  gone_high = mul-le-mul {n₂ = 4096} {m₂ = 255} (omega arith) owed_high

  pub numerator_abs : nat_abs (numerator_of setting q) ≤ 2088960
  unfolding numerator_of
  numerator_abs = omega (arith, abs_sub (window_left q) (q.at.e * owed_of setting q), window_high, gone_high)

  pub numerator_fits : SFits w64 (numerator_of setting q)
  numerator_fits = abs_fits (omega (arith, numerator_abs))

  -- the signed difference that the code computes
  pub numerator_at :
      {w m : ℕ} → w ≡ window_left q → m ≡ owed_of setting q → to_z w64 w -ℤ to_z w64 (q.at.e * m) ≡ numerator_of setting q
  unfolding numerator_of
  numerator_at f g =
      let hw : window_left q ≤ 4294967295 = omega (arith, window_high) in
      let hd : q.at.e * owed_of setting q ≤ 4294967295 = omega (arith, gone_high) in
      rw (f, g, small_pos hw, small_pos hd)

  -- m' > 0, without a division
  pub lacks_is : (b : Bool) → by_units setting ≡ b → cond b (ltb q.at.u (q.job.m * q.job.c)) (ltb q.at.s q.job.m) ≡ ltb 0 (owed_of setting q)
  unfolding owed_of finished_of
  lacks_is true e = rw e (same (ltb q.at.u (q.job.m * q.job.c)) refl)
    where
      part : (q.at.u / q.job.c < q.job.m) ↔ (q.at.u < q.job.m * q.job.c)
      part = div-lt_iff_lt-mul (omega arith)

      same : (t : Bool) → ltb q.at.u (q.job.m * q.job.c) ≡ t → ltb q.at.u (q.job.m * q.job.c) ≡ ltb 0 (q.job.m - q.at.u / q.job.c)
      same true h = h ∙ sym (lt-ltb 0 (q.job.m - q.at.u / q.job.c) (let k = part.1 (ltb-true q.at.u (q.job.m * q.job.c) h) in omega arith))
      same false h =
          let few : q.at.u / q.job.c < q.job.m → ⊥ = λ k. let l = part.0 k in let n = ltb-false q.at.u (q.job.m * q.job.c) h in omega arith in
          h ∙ sym (le-ltb 0 (q.job.m - q.at.u / q.job.c) (omega arith))
  lacks_is false e = rw e (same (ltb q.at.s q.job.m) refl)
    where
      same : (t : Bool) → ltb q.at.s q.job.m ≡ t → ltb q.at.s q.job.m ≡ ltb 0 (q.job.m - q.at.s)
      same true h = h ∙ sym (lt-ltb 0 (q.job.m - q.at.s) (let k = ltb-true q.at.s q.job.m h in omega arith))
      same false h = h ∙ sym (le-ltb 0 (q.job.m - q.at.s) (let k = ltb-false q.at.s q.job.m h in omega arith))

  -- who is not eligible and has room has its m
  room_owed : eligible_of setting q ≡ false → room_of setting q ≡ true → owed_of setting q ≡ 0
  unfolding eligible_of room_of
  room_owed not-due room = go (by_units setting) refl
    where
      other : (a b : Bool) → (a && b) ≡ false → b ≡ true → a ≡ false
      other true b e f = absurd (clash e f)
      other false b e f = refl

      go : (b : Bool) → by_units setting ≡ b → owed_of setting q ≡ 0
      go true e =
          let none = other (ltb q.at.u (q.job.m * q.job.c)) (ltb q.at.u (q.at.p * q.job.c)) (rw e at not-due) (rw e at room) in
          omega (arith, ltb-false 0 (owed_of setting q) (sym (lacks_is true e) ∙ none))
      go false e =
          let open_still = (both (ltb q.at.s q.at.p) (ltb q.at.v q.job.c) (rw e at room)).1 in
          let none = other (ltb q.at.s q.job.m) (ltb q.at.v q.job.c) (rw e at not-due) open_still in
          omega (arith, ltb-false 0 (owed_of setting q) (sym (lacks_is false e) ∙ none))

  pub spare_is : eligible_of setting q ≡ false → setting.spare ≡ true → room_of setting q ≡ takes_spare setting q
  unfolding takes_spare
  spare_is not-due on =
      go (room_of setting q) refl ∙ ap (λ (spare : Bool). spare && eqb (owed_of setting q) 0 && room_of setting q) (sym on)
    where
      go : (b : Bool) → room_of setting q ≡ b → b ≡ (eqb (owed_of setting q) 0 && b)
      go true room = sym (ap (◌&& true) (eq-eqb (owed_of setting q) 0 (room_owed not-due room)))
      go false room = sym (and-false (eqb (owed_of setting q) 0))

  -- the tag's condition without signs, and when it is too early for it
  pub overdue_is : leb (window_left q) ((q.at.e + 1) * owed_of setting q) ≡ overdue_of setting q
  unfolding overdue_of numerator_of
  overdue_is =
      let product : q.at.e * owed_of setting q + owed_of setting q ≡ (q.at.e + 1) * owed_of setting q = omega arith in
      rw (difference_most (window_left q) (q.at.e * owed_of setting q) (owed_of setting q), product)
      (go (leb (window_left q) ((q.at.e + 1) * owed_of setting q)) refl)
    where
      go : (t : Bool) → leb (window_left q) ((q.at.e + 1) * owed_of setting q) ≡ t → leb (window_left q) ((q.at.e + 1) * owed_of setting q) ≡ (ltb 0 (owed_of setting q) && leb (window_left q) ((q.at.e + 1) * owed_of setting q))
      go false e = rw e (sym (and-false (ltb 0 (owed_of setting q))))
      go true e =
          let some : owed_of setting q ≡ 0 → ⊥ =
          λ none.
          let h = leb-true (window_left q) ((q.at.e + 1) * owed_of setting q) e in
          omega (arith, window_low, ap ((q.at.e + 1) *◌) none)
          in
          rw (e, lt-ltb 0 (owed_of setting q) (omega arith))

  -- nor a difference
  pub overdue_sum : leb (window_left q + (q.at.e + 1) * finished_of setting q) ((q.at.e + 1) * q.job.m) ≡ overdue_of setting q
  unfolding owed_of
  overdue_sum = go (dec_le (finished_of setting q) q.job.m) ∙ overdue_is
    where
      next : ℕ
      next = q.at.e + 1

      done : ℕ
      done = finished_of setting q

      go :
          Dec (done ≤ q.job.m)
          → leb (window_left q + next * done) (next * q.job.m) ≡ leb (window_left q) (next * (q.job.m - done))
      go (yes h) =
          let whole : q.job.m - done + done ≡ q.job.m = omega arith in
          leb_shift (window_left q + next * done) (next * q.job.m) (window_left q) (next * (q.job.m - done)) 0 (next * done) (omega arith)
          (omega (arith, ap (next *◌) whole))
      go (no h) =
          let none : q.job.m - done ≡ 0 = omega arith in
          let less : next * q.job.m ≤ next * done = mul-le-mul_left next (omega arith) in
          lt-leb (window_left q + next * done) (next * q.job.m) (omega (arith, window_low))
          ∙ sym (lt-leb (window_left q) (next * (q.job.m - done)) (omega (arith, window_low, ap (next *◌) none)))

  pub sum_high : window_left q + (q.at.e + 1) * finished_of setting q ≤ 2088960
  sum_high =
      let next : q.at.e + 1 ≤ 4096 = omega arith in
      let done : finished_of setting q ≤ 255 = omega (arith, finished_high) in
      omega (arith, window_high, mul-le-mul next done)

  pub next_high : (q.at.e + 1) * q.job.m ≤ 1044480
  next_high = mul-le-mul {n₂ = 4096} {m₂ = 255} (omega arith) (omega arith)

  pub owed_most : owed_of setting q ≤ q.job.m
  unfolding owed_of
  owed_most = omega arith

  pub too_early : q.at.p + q.job.m ≤ q.job.k → overdue_of setting q ≡ false
  unfolding window_left
  too_early h =
      let less : (q.at.e + 1) * owed_of setting q ≤ q.job.t * q.job.m = mul-le-mul (omega arith) owed_most in
      let more : (q.job.m + 1) * q.job.t ≤ (q.job.k - q.at.p + 1) * q.job.t = mul-le-mul_right q.job.t (omega arith) in
      sym overdue_is ∙ lt-leb (window_left q) ((q.at.e + 1) * owed_of setting q) (omega arith)

  pub virtual_small : Small (virtual_away setting q)
  virtual_small = record { num_high = numerator_abs; den_high = owed_high }

  pub window_small : Small (window_away q)
  window_small = record { num_high = omega (arith, left_high); den_high = omega arith }

  -- no deadline is more than a window away
  pub due_high : plus (due_away setting q).num ≤ window_most
  unfolding due_away numerator_of
  due_high =
      by_test (λ (d : Fraction). plus d.num ≤ window_most) (in_order_v setting)
      (λ e. omega (arith, window_high, difference_plus (window_left q) (q.at.e * owed_of setting q))) (λ e. left_high)

  pub spare_small : Small (spare_away q)
  spare_small = record { num_high = omega (arith, left_high); den_high = omega arith }

-- the products that two distances are compared by
module _ {a b : Fraction} (s : Small a) (t : Small b) where
  num_fits : SFits w64 a.num
  num_fits = abs_fits (omega (arith, s.num_high))

  pub cross_fits : SFits w64 (a.num *ℤ pos b.den)
  cross_fits =
      abs_fits
      (omega (arith, abs_mul a.num b.den, mul-le-mul {n₂ = 2088960} {m₂ = 255} s.num_high t.den_high))

  pub cross_at : to_z w64 (of_z w64 a.num) *ℤ to_z w64 b.den ≡ a.num *ℤ pos b.den
  cross_at =
      let h : b.den ≤ 4294967295 = omega (arith, t.den_high) in
      rw (to_z-of_z num_fits, small_pos h)
