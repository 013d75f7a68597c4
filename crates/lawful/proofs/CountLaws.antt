-- The slots that bytes give to each job: no slot counts twice, and whole windows add up.
use mathlib.Core.Path.{◌≡◌, refl}
use mathlib.Core.Bool.{Bool, true, false, cond}
use mathlib.Core.List.{List, [], ◌∷◌}
use Prim.Native.Nat.{ℕ, zero, suc, ◌+◌, ◌*◌, ◌≤◌}
use native.Mathlib.Nat.{suc-mul}
use native.Mathlib.Omega.{arith}
use lib.Dec.{eqb, ltb}
use lib.ListN.{length, take, drop}
use lib.Seq.{take-add}
use borrow.Author.Tests.{ltb-true, ltb-false, eqb-true, eqb-false, lt-ltb, le-ltb}
use Rattle.std.proofs.lemmas.Bool.Decides.{nat_tests}
use Rattle.rules.specs.Rules.{count_in, slots_of}
use Rattle.rules.proofs.BytesLaws.{count_in_append, count_in_high}
use Rattle.rules.specs.Meaning.{sum_upto}

-- how many bytes name a job below n
abbrev given_in : ℕ → List ℕ → ℕ
given_in n bytes = count_in (λ b. ltb b n) bytes

-- the bytes below n + 1 are those below n, and n itself
given_next : (n : ℕ) (bytes : List ℕ) → given_in (suc n) bytes ≡ given_in n bytes + slots_of n bytes
unfolding count_in
given_next n [] = refl
given_next n (b ∷ bytes) = grind (arith, nat_tests, given_next n bytes)

-- slots of different jobs are different slots
slots_given : (n : ℕ) (bytes : List ℕ) → sum_upto (λ i. slots_of i bytes) n ≤ given_in n bytes
unfolding sum_upto
slots_given zero bytes = omega arith
slots_given (suc n) bytes = omega (arith, slots_given n bytes, given_next n bytes)

pub slots_high : (n : ℕ) (bytes : List ℕ) → sum_upto (λ i. slots_of i bytes) n ≤ length bytes
slots_high n bytes = omega (arith, slots_given n bytes, count_in_high (λ b. ltb b n) bytes)

-- n windows that each have `service` slots of job i have n times as many
pub windows_served :
    (i window service : ℕ) (bytes : List ℕ)
    → ((w : ℕ) → w * window + window ≤ length bytes → service ≤ slots_of i (take window (drop (w * window) bytes)))
    → (n : ℕ) → n * window ≤ length bytes → n * service ≤ slots_of i (take (n * window) bytes)
windows_served i window service bytes served zero fits = omega arith
windows_served i window service bytes served (suc n) fits =
    let fits' : n * window + window ≤ length bytes = rw suc-mul at fits in
    rw (
      suc-mul n window,
      take-add (n * window) window bytes,
      count_in_append (λ b. eqb b i) (take (n * window) bytes) (take window (drop (n * window) bytes)),
    )
    (omega (arith, windows_served i window service bytes served n (omega arith), served n fits'))
