-- Which of some numbers is picked by an order of theirs: 'Equal: the lower job number'. No search.
use Rattle.std.specs.Prelude.{ℕ, ◌<◌, ◌≡◌, Bool, true, false}

-- of the numbers below `count` that may be picked, none is sooner than j, and those below it are later
pub record Best (count : ℕ) (may : ℕ → Bool) (sooner : ℕ → ℕ → Bool) (j : ℕ) : Type 0 where
  pub listed : j < count
  pub may_be : may j ≡ true
  pub none_sooner : (i : ℕ) → i < count → may i ≡ true → sooner i j ≡ false
  pub lower_later : (i : ℕ) → i < j → may i ≡ true → sooner j i ≡ true

-- none may be picked
abbrev pub None : ℕ → (ℕ → Bool) → Type 0
None count may = (i : ℕ) → i < count → may i ≡ false

-- 'Choose among the eligible jobs' (01); 'a slot with no eligible job .. goes to a job that has its m and still has an unserved instance come due;
-- soonest window end first, then lower number' (02, Item 1)
pub data Picked (count : ℕ) (due : ℕ → Bool) (sooner : ℕ → ℕ → Bool) (spare : ℕ → Bool) (ends-sooner : ℕ → ℕ → Bool) (j : ℕ) : Type 0 where
  by_need : Best count due sooner j → Picked count due sooner spare ends-sooner j
  as_spare : None count due → Best count spare ends-sooner j → Picked count due sooner spare ends-sooner j
