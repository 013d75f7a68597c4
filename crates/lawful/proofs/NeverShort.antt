-- Demand 3, the second half: an admitted list run in window order from slot 0 has no short window. Its runs are full, and a full window is
-- not short by the rules.
use mathlib.Core.Path.{◌≡◌, refl, ◌∙◌}
use mathlib.Core.Logic.{◌≢◌}
use mathlib.Core.Bool.{Bool, false}
use mathlib.Core.List.{List}
use Prim.Native.Nat.{ℕ, zero, suc, ◌/◌, ◌%◌, ◌^◌, ◌<◌}
use native.Mathlib.Nat.{pow-succ', div-one, div-div-eq-div-mul}
use native.Mathlib.Omega.{arith}
use lib.Arith.{bin_ind}
use lib.ListN.{length, get_or}
use Rattle.job.specs.declared.list.JobList.{JobList}
use Rattle.job.proofs.TestLaws.{clash}
use Rattle.run.specs.declared.state.State.{State}
use Rattle.run.specs.declared.answer.Slot.{Slot}
use Rattle.run.specs.Calls.{Run, bytes_of}
use Rattle.run.specs.SlotMeaning.{how_many}
use Rattle.rules.specs.Rules.{ends_short}
use Rattle.rules.specs.Meaning.{no_slot, RunTold}
use Rattle.rules.proofs.Meaning.{run_follows}
use Rattle.lawful.specs.DemandThree.{Admits, window_order, NeverShort}
use Rattle.lawful.proofs.SumLaws.{sum_zero}
use Rattle.lawful.proofs.OnTimeLaws.{window_allowed}
use Rattle.lawful.proofs.AdmittedLaws.{admits_exactly}
use Rattle.lawful.proofs.FullLaws.{not_short}
use Rattle.lawful.proofs.Timetable.{runs_lawful}

-- a set with no member is 0
empty_set : (mask : ℕ) → ((i : ℕ) → mask / 2 ^ i % 2 ≡ 1 → ⊥) → mask ≡ 0
empty_set =
    bin_ind (λ (mask : ℕ). ((i : ℕ) → mask / 2 ^ i % 2 ≡ 1 → ⊥) → mask ≡ 0) (λ none. refl)
    (λ mask half none.
    let rest : mask / 2 ≡ 0 =
    half (λ i. rw (div-div-eq-div-mul mask 2 (2 ^ i), ← pow-succ' 2 i) (none (suc i))) in
    let low : mask % 2 ≢ 1 = λ odd. none 0 (rw (div-one mask) odd) in
    omega arith)

-- and a count of none is 0
pub none_counted : (f : ℕ → Bool) (n : ℕ) → ((i : ℕ) → i < n → f i ≡ false) → how_many f n ≡ 0
unfolding how_many
none_counted f zero none = refl
none_counted f (suc n) none = rw (none n (omega arith)) (none_counted f n (λ i h. none i (omega arith)))

-- so no slot of a run ends a window short, by the rules
pub ends_full :
    (l : JobList) → Admits l → (spare : Bool) (slots : List Slot) (state : State) → Run l (window_order spare) slots state → (n : ℕ)
    → n < length slots → (i : ℕ) → i < l.count → ends_short l (window_order spare) (bytes_of slots) n i ≡ false
ends_full l admits spare slots state run n h i listed =
    let table = runs_lawful l admits spare slots state run in
    not_short l (window_order spare) refl (bytes_of slots) i listed (((admits_exactly l).0 admits).sound.jobs i listed) table.2 n
    (omega (arith, table.0.long))

pub never_short : NeverShort
never_short l admits spare slots state run =
    let told : RunTold l (window_order spare) slots state =
    run_follows l (window_order spare) ((admits_exactly l).0 admits).sound window_allowed slots state run in
    let none = ends_full l admits spare slots state run in (
      λ n h.
          empty_set (get_or slots n no_slot).shorts
          (λ i bit.
          let short = ((told.slots_are n h).shorts i).0 bit in
          clash (none n h i short.0) short.1),
      told.state_is.shorts_is
          ∙ sum_zero _ (length (bytes_of slots)) (λ n h. none_counted _ l.count (none n (omega (arith, told.long)))),
    )
