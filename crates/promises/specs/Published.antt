-- A published theorem decided. Theorem 3 of document 000: 'If U_min .. ≤ 1.0, C_i = Δ and T_i = q_i Δ .. then VDS guarantees a feasible schedule
-- according to the relaxed window-constrained model', with no rigorous proof there. It is false: three jobs of one slot each whose load is 39 of 40
-- slots, and in order V a window ends short in slot 9.
use Rattle.std.specs.Prelude.{ℕ, ◌≤◌, ◌<◌, ◌≡◌, Bool, List, [], ◌∷◌, length, get_or}
use Rattle.job.specs.declared.record.Job.{Job}
use Rattle.job.specs.Limit.{relaxed}
use Rattle.admission.specs.Answer.{admitted_of}
use Rattle.admission.specs.Promise.{VerdictPromise}
use Rattle.place.specs.declared.setting.Setting.{Setting}
use Rattle.run.specs.declared.state.State.{State}
use Rattle.run.specs.declared.answer.Slot.{Slot}
use Rattle.run.specs.Calls.{Run}
use Rattle.rules.specs.Meaning.{no_slot}
use Rattle.lawful.specs.DemandThree.{window_order}
use Rattle.promises.specs.Cases.{job, listed}

-- the list, and its six orders: however ties are broken by the job's number, it is one of these
abbrev long : Job
long = job 1 1 27 40

abbrev tenth : Job
tenth = job 1 1 1 10

abbrev fifth : Job
fifth = job 1 1 1 5

abbrev pub orders : List (List Job)
orders =
    (long ∷ tenth ∷ fifth ∷ [])
    ∷ (long ∷ fifth ∷ tenth ∷ [])
    ∷ (tenth ∷ long ∷ fifth ∷ [])
    ∷ (tenth ∷ fifth ∷ long ∷ [])
    ∷ (fifth ∷ long ∷ tenth ∷ [])
    ∷ (fifth ∷ tenth ∷ long ∷ [])
    ∷ []

-- order 0 is V; model 0 is relaxed, 1 is original
abbrev pub virtual_order : ℕ → Bool → Setting
virtual_order model spare = record { order = 0; model = model; spare = spare }

-- the last slot of the first window of one short job, and of the second of the other
abbrev pub late_slot : ℕ
late_slot = 9

-- of whatever `verdict`, `start` and `step` answer by their promises; there are such runs up to the clock's limit (`RunExists` of rules)
pub record Refutes (jobs : List Job) : Type 0 where
  -- the load is at most the cycle, as Theorem 3 asks
  pub admitted : VerdictPromise (listed jobs) relaxed (admitted_of 40 39)
  -- in order V, in either model, spare on or off, some window ends short in that slot
  pub short_in_v :
      (model : ℕ) → model ≤ 1 → (spare : Bool) (slots : List Slot) (state : State) → Run (listed jobs) (virtual_order model spare) slots state
      → late_slot < length slots → (get_or slots late_slot no_slot).shorts ≡ 0 → ⊥
  -- in order W none ever does: demand 3
  pub never_in_w :
      (spare : Bool) (slots : List Slot) (state : State) → Run (listed jobs) (window_order spare) slots state → (n : ℕ) → n < length slots
      → (get_or slots n no_slot).shorts ≡ 0

abbrev pub TheoremThreeFails : Type 0
TheoremThreeFails = (i : ℕ) → i < length orders → Refutes (get_or orders i [])
