-- The bytes of the open cycle of m slots after n slots, and after one more; periods of t slots in windows of k periods.
use mathlib.Core.Path.{◌≡◌, ap, ◌∙◌}
use mathlib.Core.List.{List, [], ◌∷◌, ◌++◌}
use Prim.Native.Nat.{ℕ, suc, ◌+◌, ◌-◌, ◌*◌, ◌/◌, ◌%◌, ◌≤◌, ◌<◌}
use native.Mathlib.Nat.{mod-lt, mod-mod_of_dvd, div-add-mod', div-lt_iff_lt-mul, mul-div_cancel, zero-div, suc-mul, mul-pos, dvd-mul_left}
use native.Mathlib.Decide.{dec_lt}
use native.Mathlib.Omega.{arith}
use lib.Arith.{digits_lt, digits_div}
use lib.ListN.{length, drop, drop_of_length-le}
use lib.Seq.{drop-append-le}
use Rattle.place.proofs.CycleLaws.{cycle_goes_on, cycle_ends}

-- the bytes since the cycle opened; where it opens there are none yet
module _ (m n : ℕ) (bytes : List ℕ) (long : length bytes ≡ n) where
  pub since_goes_on :
      (b : ℕ) → n % m + 1 < m → drop (suc n - suc n % m) (bytes ++ b ∷ []) ≡ drop (n - n % m) bytes ++ b ∷ []
  since_goes_on b h =
      let same : suc n - suc n % m ≡ n - n % m = omega (arith, cycle_goes_on m n h) in
      rw same (drop-append-le (n - n % m) bytes (b ∷ []) (omega arith))

  pub since_none : n % m ≡ 0 → drop (n - n % m) bytes ≡ []
  since_none opens =
      let all : length bytes ≤ n - n % m = omega arith in
      drop_of_length-le bytes all

-- the periods begun in the open window
abbrev pub begun : ℕ → ℕ → ℕ → ℕ
begun t k n = n % (k * t) / t + 1

-- slot n, by what ends with it
pub data Tick (t k n : ℕ) : Type 0 where
  nothing_ends : n % t + 1 < t → n % (k * t) + 1 < k * t → begun t k (suc n) ≡ begun t k n → Tick t k n
  period_ends :
      n % t + 1 ≡ t → n % (k * t) + 1 < k * t → begun t k n < k → begun t k (suc n) ≡ begun t k n + 1 → Tick t k n
  window_ends_lem : n % t + 1 ≡ t → n % (k * t) + 1 ≡ k * t → begun t k n ≡ k → begun t k (suc n) ≡ 1 → Tick t k n

-- the open window is the whole periods before the open one, and what has gone of that
pub window_split : (t k n : ℕ) → n % (k * t) ≡ n % (k * t) / t * t + n % t
window_split t k n = omega (arith, div-add-mod' (n % (k * t)) t, mod-mod_of_dvd t n (dvd-mul_left t k))

module _ (t k n : ℕ) (t-low : 1 ≤ t) (k-low : 1 ≤ k) where
  pub begun_high : begun t k n ≤ k
  begun_high =
      let some : 0 < k * t = mul-pos k-low t-low in
      let high : n % (k * t) / t < k = (div-lt_iff_lt-mul t-low).1 (mod-lt n some) in
      omega arith

  pub tick : Tick t k n
  tick = go (dec_lt (n % t + 1) t) (dec_lt (begun t k n) k)
    where
      past : ℕ
      past = n % (k * t) / t

      go : Dec (n % t + 1 < t) → Dec (begun t k n < k) → Tick t k n
      go (yes inside) d =
          let next : n % (k * t) + 1 ≡ past * t + (n % t + 1) = omega (arith, window_split t k n) in
          let more : past * t + (n % t + 1) < k * t = digits_lt (omega (arith, begun_high)) inside in
          let stays : n % (k * t) + 1 < k * t = omega arith in
          nothing_ends inside stays
          (ap (◌+ 1) (ap (◌/ t) (cycle_goes_on (k * t) n stays ∙ next) ∙ digits_div past inside))
      go (no ends) (yes more) =
          let last : n % t + 1 ≡ t = omega (arith, mod-lt n t-low) in
          let next : n % (k * t) + 1 ≡ suc past * t = omega (arith, window_split t k n, suc-mul past t) in
          let fewer : suc past * t + 0 < k * t = digits_lt (omega arith) t-low in
          let stays : n % (k * t) + 1 < k * t = omega arith in
          period_ends last stays more
          (ap (◌+ 1) (ap (◌/ t) (cycle_goes_on (k * t) n stays ∙ next) ∙ mul-div_cancel (suc past) t-low ∙ omega arith))
      go (no ends) (no more) =
          let last : n % t + 1 ≡ t = omega (arith, mod-lt n t-low) in
          let all : suc past ≡ k = omega (arith, begun_high) in
          let whole : n % (k * t) + 1 ≡ k * t = omega (arith, window_split t k n, suc-mul past t, ap (◌* t) all) in
          window_ends_lem last whole (omega arith) (ap (◌+ 1) (ap (◌/ t) (cycle_ends (k * t) n whole) ∙ zero-div t))
