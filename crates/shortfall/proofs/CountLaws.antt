-- How many numbers have a property, also where it comes again every h numbers.
use mathlib.Core.Path.{◌≡◌, refl, sym, ap, ◌∙◌}
use mathlib.Core.Bool.{Bool, false, cond}
use Prim.Native.Nat.{ℕ, zero, suc, ◌+◌, ◌-◌, ◌*◌, ◌/◌, ◌%◌, ◌≤◌, ◌<◌}
use native.Mathlib.Nat.{add-zero, add-suc, zero-mul, suc-mul, mod-lt, div-add-mod'}
use native.Mathlib.Omega.{arith}
use Rattle.std.proofs.lemmas.Bool.Decides.{nat_tests}
use Rattle.run.specs.SlotMeaning.{how_many}
use Rattle.lawful.proofs.NeverShort.{none_counted}

-- of a part, and of what follows it
many_add : (f : ℕ → Bool) (a b : ℕ) → how_many f (a + b) ≡ how_many f a + how_many (λ i. f (a + i)) b
unfolding how_many
many_add f a zero = rw (add-zero, add-zero)
many_add f a (suc b) = grind (arith, nat_tests, add-suc a b, many_add f a b)

pub many_same : (f g : ℕ → Bool) (n : ℕ) → ((i : ℕ) → i < n → f i ≡ g i) → how_many f n ≡ how_many g n
unfolding how_many
many_same f g zero same = refl
many_same f g (suc n) same =
    rw (same n (omega arith)) (ap (λ (x : ℕ). cond (g n) (x + 1) x) (many_same f g n (λ i h. same i (omega arith))))

-- numbers from n on that have it not
pub many_past : (f : ℕ → Bool) (n m : ℕ) → n ≤ m → ((i : ℕ) → n ≤ i → f i ≡ false) → how_many f n ≡ how_many f m
many_past f n m fits none =
    let rest : n + (m - n) ≡ m = omega arith in
    sym
    (ap (how_many f) (sym rest)
    ∙ many_add f n (m - n)
    ∙ omega (arith, none_counted (λ i. f (n + i)) (m - n) (λ i inside. none (n + i) (omega arith))))

-- none where the count is 0
pub many_none : (f : ℕ → Bool) (n : ℕ) → how_many f n ≡ 0 → (i : ℕ) → i < n → f i ≡ false
unfolding how_many
many_none f zero e i h = absurd (omega arith)
many_none f (suc n) e i h = grind (arith, nat_tests, many_none f n)

module _ (f : ℕ → Bool) (h : ℕ) (again : (n : ℕ) → f (h + n) ≡ f n) where
  again_often : (q n : ℕ) → f (q * h + n) ≡ f n
  again_often zero n = let none : 0 * h + n ≡ n = omega arith in ap f none
  again_often (suc q) n = let more : suc q * h + n ≡ h + (q * h + n) = omega (arith, suc-mul q h) in ap f more ∙ again (q * h + n) ∙ again_often q n

  pub many_often : (q : ℕ) → how_many f (q * h) ≡ q * how_many f h
  unfolding how_many
  many_often zero = rw (zero-mul h, zero-mul (how_many f h))
  many_often (suc q) =
      let more : suc q * h ≡ q * h + h = suc-mul q h in
      ap (how_many f) more
      ∙ many_add f (q * h) h
      ∙ omega (arith, many_often q, many_same (λ i. f (q * h + i)) f h (λ i inside. again_often q i), suc-mul q (how_many f h))

  pub none_ever : 0 < h → ((i : ℕ) → i < h → f i ≡ false) → (n : ℕ) → f n ≡ false
  none_ever some none n =
      ap f (sym (div-add-mod' n h)) ∙ again_often (n / h) (n % h) ∙ none (n % h) (mod-lt n some)
