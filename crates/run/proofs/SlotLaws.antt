-- What one slot makes of each of the places, and the sets of its answer: as masks, and how many they hold.
use mathlib.Core.Path.{◌≡◌, refl, sym, ap, ◌∙◌}
use mathlib.Core.Bool.{Bool, true, false, ◌&&◌, cond}
use mathlib.Core.Logic.{◌↔◌}
use mathlib.Core.List.{List}
use Prim.Native.Nat.{ℕ, zero, suc, ◌+◌, ◌-◌, ◌*◌, ◌/◌, ◌%◌, ◌^◌, ◌≤◌, ◌<◌}
use native.Mathlib.Nat.{add-zero, le_refl, pow-suc, div-eq_of_lt, add-div_right, add-mul-div_left, add-mul-mod_self_right, lt_of_lt_of_le}
use native.Mathlib.Numerals.{add-one}
use native.Mathlib.Omega.{arith}
use lib.Dec.{ltb}
use lib.ListN.{length, set, length-set}
use lib.Pow.{pow_pos, pow-add, pow_mono}
use lib.Seq.{get_or-set_same, get_or-set_other}
use mir.Val.{bool_byte}
use borrow.Author.Count.{below_none, below_more}
use borrow.Author.Tests.{eqb-true, eq-eqb, ltb-true, ltb-false, lt-ltb}
use Rattle.job.proofs.TestLaws.{both}
use Rattle.place.specs.declared.setting.Setting.{Setting}
use Rattle.place.specs.declared.record.Place.{Place}
use Rattle.place.specs.declared.inner.service.Outcome.{Outcome}
use Rattle.place.specs.Opening.{blank}
use Rattle.run.specs.State.{place_at}
use Rattle.run.specs.Slot.{moved_at, places_upto, mask_upto, count_upto}
use Rattle.run.specs.Answer.{member}
use Rattle.run.specs.SlotMeaning.{how_many}

-- the places

module _ (setting : Setting) (places : List Place) (at : ℕ) where
  pub placed_length : (n : ℕ) → length (places_upto setting places at n) ≡ length places
  unfolding places_upto
  placed_length zero = refl
  placed_length (suc n) =
      length-set (places_upto setting places at n) n (moved_at setting places at n).place ∙ placed_length n

  -- a place that is not yet reached stands as it was
  pub placed_later : (n i : ℕ) → n ≤ i → place_at (places_upto setting places at n) i ≡ place_at places i
  unfolding places_upto
  placed_later zero i h = refl
  placed_later (suc n) i h =
      get_or-set_other (places_upto setting places at n) n i (moved_at setting places at n).place blank (omega arith)
      ∙ placed_later n i (omega arith)

  -- one that was reached has moved
  pub placed_before :
      (n : ℕ) → n ≤ length places → (i : ℕ) → i < n
      → place_at (places_upto setting places at n) i ≡ (moved_at setting places at i).place
  unfolding places_upto
  placed_before zero fits = below_none _
  placed_before (suc n) fits =
      rw (← add-one n)
      (below_more (λ (i : ℕ). place_at (places_upto setting places at (suc n)) i ≡ (moved_at setting places at i).place) n
      (λ i h.
      get_or-set_other (places_upto setting places at n) n i (moved_at setting places at n).place blank (omega arith)
      ∙ placed_before n (omega arith) i h)
      (get_or-set_same (places_upto setting places at n) n (moved_at setting places at n).place blank
      (omega (arith, placed_length n))))

  module _ (i : ℕ) {now : List Place} (so_far : now ≡ places_upto setting places at i) where
    -- the place that a turn of a loop reads
    pub placed_now : place_at now i ≡ place_at places i
    placed_now = ap (λ (l : List Place). place_at l i) so_far ∙ placed_later i i (le_refl i)

    -- and what it leaves
    pub place_more :
        {o : Outcome} → o ≡ moved_at setting places at i → set now i o.place ≡ places_upto setting places at (i + 1)
    unfolding places_upto
    place_more e = rw (add-one, so_far, e)

-- a truth value as a number
pub byte_high : (b : Bool) → bool_byte b ≤ 1
byte_high true = omega arith
byte_high false = omega arith

pub plus_byte : (b : Bool) (x : ℕ) → x + bool_byte b ≡ cond b (x + 1) x
plus_byte true x = refl
plus_byte false x = add-zero x

-- a set as a mask, and how many it holds

mask_step : (b : Bool) {m p : ℕ} → m < p → cond b (m + p) m < p * 2
mask_step true h = omega arith
mask_step false h = omega arith

count_step : (b : Bool) {m n : ℕ} → m ≤ n → cond b (m + 1) m ≤ suc n
count_step true h = omega arith
count_step false h = omega arith

module _ (f : ℕ → Bool) where
  pub mask_high : (n : ℕ) → mask_upto f n < 2 ^ n
  unfolding mask_upto
  mask_high zero = omega arith
  mask_high (suc n) = rw pow-suc (mask_step (f n) (mask_high n))

  pub count_high : (n : ℕ) → count_upto f n ≤ n
  unfolding count_upto
  count_high zero = omega arith
  count_high (suc n) = count_step (f n) (count_high n)

  -- one more turn of a loop
  module _ (i : ℕ) {b : Bool} (here : b ≡ f i) where
    pub mask_more : {m one r : ℕ} → m ≡ mask_upto f i → one ≡ 2 ^ i → r ≡ cond b (m + one) m → r ≡ mask_upto f (i + 1)
    unfolding mask_upto
    mask_more so_far bit e = rw add-one (e ∙ rw (so_far, bit, here))

    pub count_more : {m r : ℕ} → m ≡ count_upto f i → r ≡ cond b (m + 1) m → r ≡ count_upto f (i + 1)
    unfolding count_upto
    count_more so_far e = rw add-one (e ∙ rw (so_far, here))

-- the bits of a number below 2 ^ n, with and without the bit n

bit_past : {m : ℕ} (n i : ℕ) → m < 2 ^ n → n ≤ i → member m i ≡ false
bit_past n i h past = let small = lt_of_lt_of_le h (pow_mono past) in rw (div-eq_of_lt small)

bit_set : {m : ℕ} (n : ℕ) → m < 2 ^ n → member (m + 2 ^ n) n ≡ true
bit_set {m} n h = rw (add-div_right m (pow_pos n), div-eq_of_lt h)

bit_below : (m n i : ℕ) → i < n → member (m + 2 ^ n) i ≡ member m i
bit_below m n i h =
    let apart : n ≡ i + suc (n - suc i) = omega arith in
    let power : 2 ^ n ≡ 2 ^ i * (2 ^ (n - suc i) * 2) =
    rw (← pow-suc 2 (n - suc i), ← pow-add 2 i (suc (n - suc i))) (ap (2 ^◌) apart) in
    rw
    (power, add-mul-div_left m (2 ^ (n - suc i) * 2) (pow_pos i), add-mul-mod_self_right (m / 2 ^ i) (2 ^ (n - suc i)) 2)

step_below : (b : Bool) (m n i : ℕ) → i < n → member (cond b (m + 2 ^ n) m) i ≡ member m i
step_below true m n i h = bit_below m n i h
step_below false m n i h = refl

step_here : (b : Bool) {m : ℕ} (n : ℕ) → m < 2 ^ n → member (cond b (m + 2 ^ n) m) n ≡ b
step_here true n h = bit_set n h
step_here false n h = bit_past n n h (le_refl n)

module _ (f : ℕ → Bool) where
  member_below : (n i : ℕ) → i < n → member (mask_upto f n) i ≡ f i
  unfolding mask_upto
  member_below zero = below_none _
  member_below (suc n) =
      rw (← add-one n)
      (below_more (λ (i : ℕ). member (mask_upto f (suc n)) i ≡ f i) n
      (λ i h. step_below (f n) (mask_upto f n) n i h ∙ member_below n i h)
      (step_here (f n) n (mask_high f n)))

  member_past : (n i : ℕ) → n ≤ i → member (mask_upto f n) i ≡ false
  member_past n i h = bit_past n i (mask_high f n) h

  pub member_mask : (n i : ℕ) → member (mask_upto f n) i ≡ (ltb i n && f i)
  member_mask n i = go (ltb i n) refl
    where
      go : (b : Bool) → ltb i n ≡ b → member (mask_upto f n) i ≡ (b && f i)
      go true e = member_below n i (ltb-true i n e)
      go false e = member_past n i (ltb-false i n e)

-- the bits of a mask
pub mask_exactly :
    (f g : ℕ → Bool) {count listed : ℕ} → count ≡ listed → ((i : ℕ) → i < listed → f i ≡ g i) → (j : ℕ)
    → (mask_upto f count / 2 ^ j % 2 ≡ 1) ↔ ((j < listed) × (g j ≡ true))
mask_exactly f g {count} {listed} all same j = (
  λ e.
      let tests = both (ltb j count) (f j) (sym (member_mask f count j) ∙ eq-eqb (mask_upto f count / 2 ^ j % 2) 1 e) in
      let below : j < listed = omega (arith, ltb-true j count tests.0) in
      (below, sym (same j below) ∙ tests.1),
  λ h.
      eqb-true (mask_upto f count / 2 ^ j % 2) 1
      (member_mask f count j ∙ rw (lt-ltb j count (omega (arith, h.0)), same j h.0, h.1)),
)

-- how many a set holds
pub count_is : (f g : ℕ → Bool) (n : ℕ) → ((i : ℕ) → i < n → f i ≡ g i) → count_upto f n ≡ how_many g n
unfolding count_upto how_many
count_is f g zero same = refl
count_is f g (suc n) same =
    rw (same n (omega arith)) (ap (λ (x : ℕ). cond (g n) (x + 1) x) (count_is f g n (λ i h. same i (omega arith))))
