-- One place whose service is kept by units, over one slot: the slots given and the periods left.
use mathlib.Core.Path.{◌≡◌, refl}
use mathlib.Core.Bool.{Bool, true, false, cond}
use mathlib.Core.Logic.{◌⊎◌, inl, inr}
use Prim.Native.Nat.{ℕ, ◌+◌, ◌-◌, ◌*◌, ◌≤◌, ◌<◌}
use native.Mathlib.Decide.{dec_lt}
use native.Mathlib.Omega.{arith}
use borrow.Author.Tests.{lt-ltb}
use Rattle.std.proofs.lemmas.Bool.Decides.{nat_tests}
use Rattle.place.specs.declared.setting.Setting.{Setting}
use Rattle.place.specs.declared.record.Place.{Place}
use Rattle.place.specs.Setting.{by_units}
use Rattle.place.specs.Place.{window_left, left_of, eligible_of}
use Rattle.place.specs.Choice.{candidate_of}
use Rattle.place.specs.Sound.{SoundPlace}
use Rattle.job.proofs.TestLaws.{clash}
use Rattle.place.proofs.PlaceLaws.{candidate_units}

-- the slots given in the open window, this one counted
abbrev pub used_of : Place → Bool → ℕ
used_of q chosen = cond chosen (q.at.u + 1) q.at.u

-- a place that is not eligible has had all its slots, or C for each period begun
pub not_eligible :
    (setting : Setting) (q : Place) → by_units setting ≡ true → eligible_of setting q ≡ false
    → (q.job.m * q.job.c ≤ q.at.u) ⊎ (q.at.p * q.job.c ≤ q.at.u)
unfolding eligible_of
not_eligible setting q units e = grind (arith, nat_tests)

module _ {setting : Setting} {q : Place} (sound : SoundPlace setting q) where
  -- the periods that follow the open one are still to come after the slot
  pub left_more : (q.job.k - q.at.p) * q.job.t + 1 ≤ left_of q
  unfolding left_of window_left
  left_more = omega (arith, sound.e_high)

  -- only a candidate is given a slot, so its slots stay within C for each period begun
  pub used_most :
      by_units setting ≡ true → (chosen : Bool) → (chosen ≡ true → candidate_of setting q ≡ true)
      → used_of q chosen ≤ q.at.p * q.job.c
  used_most units true fair = omega (arith, candidate_units setting q units (fair refl))
  used_most units false fair = (sound.service.by_units_lem units).u_p
