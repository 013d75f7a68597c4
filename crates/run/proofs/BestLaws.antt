-- What is picked by an order: there is one, and equal tests pick the same.
use mathlib.Core.Path.{◌≡◌, sym, ◌∙◌}
use mathlib.Core.Logic.{◌↔◌}
use mathlib.Core.Bool.{Bool, true}
use Prim.Native.Nat.{ℕ, ◌<◌}
use native.Mathlib.Omega.{arith}
use Rattle.run.specs.Best.{Best, None, Picked, by_need, as_spare}
use Rattle.job.proofs.TestLaws.{clash}

module _ {count : ℕ} {may : ℕ → Bool} {sooner : ℕ → ℕ → Bool} where
  not_below : {i j : ℕ} → Best count may sooner i → Best count may sooner j → i < j → ⊥
  not_below {i} {j} a b h = clash (a.none_sooner j b.listed b.may_be) (b.lower_later i h a.may_be)

  pub best_one : {i j : ℕ} → Best count may sooner i → Best count may sooner j → i ≡ j
  best_one {i} {j} a b =
      let least : ¬ (i < j) = not_below a b in
      let most : ¬ (j < i) = not_below b a in
      omega arith

  pub best_some : {j : ℕ} → Best count may sooner j → None count may → ⊥
  best_some {j} b none = clash (none j b.listed) b.may_be

module _ {count : ℕ} {due spare : ℕ → Bool} {sooner ends : ℕ → ℕ → Bool} where
  pub picked_one : {i j : ℕ} → Picked count due sooner spare ends i → Picked count due sooner spare ends j → i ≡ j
  picked_one (by_need a) (by_need b) = best_one a b
  picked_one (by_need a) (as_spare none b) = absurd (best_some a none)
  picked_one (as_spare none a) (by_need b) = absurd (best_some b none)
  picked_one (as_spare none a) (as_spare none' b) = best_one a b

  pub picked_some : {j : ℕ} → Picked count due sooner spare ends j → None count due × None count spare → ⊥
  picked_some (by_need a) none = best_some a none.0
  picked_some (as_spare _ a) none = best_some a none.1

-- tests that are equal below the count

abbrev pub SameTest : ℕ → (ℕ → Bool) → (ℕ → Bool) → Type 0
SameTest count f g = (i : ℕ) → i < count → f i ≡ g i

abbrev pub SameOrder : ℕ → (ℕ → ℕ → Bool) → (ℕ → ℕ → Bool) → Type 0
SameOrder count f g = (i j : ℕ) → i < count → j < count → f i j ≡ g i j

none_same : {count : ℕ} {f g : ℕ → Bool} → SameTest count f g → None count f → None count g
none_same same none i h = sym (same i h) ∙ none i h

-- the best of some is the best of a part of them that it is in
pub best_part :
    {count : ℕ} {f g : ℕ → Bool} {p q : ℕ → ℕ → Bool} → ((i : ℕ) → i < count → g i ≡ true → f i ≡ true)
    → ((i j : ℕ) → i < count → j < count → g i ≡ true → g j ≡ true → p i j ≡ q i j) → {j : ℕ} → g j ≡ true → Best count f p j
    → Best count g q j
best_part {count} part order {j} is b =
    record {
      listed = b.listed;
      may_be = is;
      none_sooner = λ i h may. sym (order i j h b.listed may is) ∙ b.none_sooner i h (part i h may);
      lower_later =
          λ i h may.
          let below : i < count = omega (arith, b.listed) in
          sym (order j i b.listed below is may) ∙ b.lower_later i h (part i below may);
    }

best_same :
    {count : ℕ} {f g : ℕ → Bool} {p q : ℕ → ℕ → Bool} → SameTest count f g → SameOrder count p q → {j : ℕ} → Best count f p j
    → Best count g q j
best_same same order {j} b =
    best_part (λ i h is. same i h ∙ is) (λ i k h l _ _. order i k h l) (sym (same j b.listed) ∙ b.may_be) b

module _
    {count : ℕ} {due due' spare spare' : ℕ → Bool} {sooner sooner' ends ends' : ℕ → ℕ → Bool} (due_is : SameTest count due due')
    (sooner_is : SameOrder count sooner sooner') (spare_is : SameTest count spare spare') (ends_is : SameOrder count ends ends')
  where
    back : {f g : ℕ → Bool} → SameTest count f g → SameTest count g f
    back same i h = sym (same i h)

    back_order : {p q : ℕ → ℕ → Bool} → SameOrder count p q → SameOrder count q p
    back_order same i j h g = sym (same i j h g)

    pub picked_same : (j : ℕ) → Picked count due sooner spare ends j ↔ Picked count due' sooner' spare' ends' j
    picked_same j = (to, from)
      where
        to : Picked count due sooner spare ends j → Picked count due' sooner' spare' ends' j
        to (by_need b) = by_need (best_same due_is sooner_is b)
        to (as_spare none b) = as_spare (none_same due_is none) (best_same spare_is ends_is b)

        from : Picked count due' sooner' spare' ends' j → Picked count due sooner spare ends j
        from (by_need b) = by_need (best_same (back due_is) (back_order sooner_is) b)
        from (as_spare none b) = as_spare (none_same (back due_is) none) (best_same (back spare_is) (back_order ends_is) b)

    pub idle_same : (None count due × None count spare) ↔ (None count due' × None count spare')
    idle_same =
        (λ n. (none_same due_is n.0, none_same spare_is n.1), λ n. (none_same (back due_is) n.0, none_same (back spare_is) n.1))
