-- The work due within D slots, on plain numbers: `service` slots in every window, where the open window ends in `left` slots and lacks `lack`.
use mathlib.Core.Path.{◌≡◌, ap}
use mathlib.Core.Bool.{cond}
use Prim.Native.Nat.{ℕ, ◌+◌, ◌-◌, ◌*◌, ◌/◌, ◌≤◌, ◌<◌}
use native.Mathlib.Nat.{le_trans, mul-le-mul_left, mul-le-mul_right, div-mul-le_self, div-eq-sub-div, div-eq_of_lt}
use native.Mathlib.Decide.{dec_le}
use native.Mathlib.Omega.{arith}
use lib.Dec.{leb}
use borrow.Author.Tests.{le-leb, lt-leb}
use Rattle.std.proofs.lemmas.Bool.Decides.{nat_tests}

unfoldable pub amount : ℕ → ℕ → ℕ → ℕ → ℕ → ℕ
amount window service left lack D = cond (leb left D) (lack + (D - left) / window * service) 0

module _ (window service : ℕ) where
  pub amount_in : {left D : ℕ} (lack : ℕ) → left ≤ D → amount window service left lack D ≡ lack + (D - left) / window * service
  unfolding amount
  amount_in {left} {D} lack h = rw (le-leb left D h)

  pub amount_out : {left D : ℕ} (lack : ℕ) → D < left → amount window service left lack D ≡ 0
  unfolding amount
  amount_out {left} {D} lack h = rw (lt-leb left D h)

  -- the same moment seen a slot earlier
  pub amount_shift :
      (left lack D : ℕ) → amount window service left lack D ≡ amount window service (left + 1) lack (D + 1)
  unfolding amount
  amount_shift left lack D = grind (arith, nat_tests)

  -- what lacks more has more to do
  pub amount_more :
      (left D : ℕ) {lack more : ℕ} → lack ≤ more → amount window service left lack D ≤ amount window service left more D
  unfolding amount
  amount_more left D {lack} {more} few = grind (arith, nat_tests)

  -- as a window opens
  pub amount_new : (D : ℕ) → 0 < window → amount window service window service D ≡ D / window * service
  amount_new D some = go (dec_le window D)
    where
      go : Dec (window ≤ D) → amount window service window service D ≡ D / window * service
      go (yes h) = rw (amount_in service h) (omega (arith, ap (◌* service) (div-eq-sub-div some h)))
      go (no h) =
          let out : D < window = omega arith in
          rw (amount_out service out, div-eq_of_lt out) (omega arith)

  -- as the last slot of a window begins
  pub amount_last : (lack D : ℕ) → amount window service 1 lack (D + 1) ≡ lack + D / window * service
  unfolding amount
  amount_last lack D = grind (arith, nat_tests)

  -- where the open window lacks no more than its share of the slots left in it, what is due is within its share of D
  pub amount_bound :
      (left lack D : ℕ) → lack * window ≤ service * left → amount window service left lack D * window ≤ service * D
  amount_bound left lack D few = go (dec_le left D)
    where
      go : Dec (left ≤ D) → amount window service left lack D * window ≤ service * D
      go (yes h) =
          let whole : left + (D - left) ≡ D = omega arith in
          rw (amount_in lack h)
          (omega (arith, mul-le-mul_left service (div-mul-le_self (D - left) window), ap (service *◌) whole))
      go (no h) = let out : D < left = omega arith in rw (amount_out lack out) (omega arith)

-- in N slots, whole windows, a bound by the window is a bound by the share
pub by_share :
    (N window service D x : ℕ) → N / window * window ≡ N → x * window ≤ service * D → N * x ≤ service * (N / window) * D
by_share N window service D x whole bound = omega (arith, mul-le-mul_left (N / window) bound, ap (◌* x) whole)

-- m of k periods are to be had, and p of the k had their C slots each: the rest is no more than its share of the slots left
rest_of_share : (c t p d r : ℕ) → d ≤ r → d * c * ((r + p) * t) ≤ (d + p) * c * (r * t)
rest_of_share c t p d r h = omega (arith, mul-le-mul_left (p * c * t) h)

pub lack_within_share :
    (c t m k p u left : ℕ) → m ≤ k → p ≤ k → p * c ≤ u → (k - p) * t ≤ left → (m * c - u) * (k * t) ≤ m * c * left
lack_within_share c t m k p u left mk pk had rest = go (dec_le m p)
  where
    go : Dec (m ≤ p) → (m * c - u) * (k * t) ≤ m * c * left
    go (yes h) =
        let none : m * c - u ≡ 0 = omega (arith, mul-le-mul_right c h) in
        rw none (omega arith)
    go (no h) =
        let m-split : m - p + p ≡ m = omega arith in
        let k_split : k - p + p ≡ k = omega arith in
        let fewer : m - p ≤ k - p = omega arith in
        let share : (m - p) * c * (k * t) ≤ m * c * ((k - p) * t) =
        rw (m-split, k_split) at (rest_of_share c t p (m - p) (k - p) fewer) in
        let lack : m * c - u ≤ (m - p) * c = omega (arith, ap (◌* c) m-split) in
        le_trans (mul-le-mul_right (k * t) lack) (le_trans share (mul-le-mul_left (m * c) rest))
