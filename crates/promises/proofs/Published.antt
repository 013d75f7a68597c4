-- The counterexample, computed from the definitions that the promises of `verdict`, `start` and `step` cite.
use mathlib.Core.Path.{◌≡◌, refl, sym, ap}
use mathlib.Core.Bool.{Bool, true, false, ◌&&◌}
use mathlib.Core.List.{List, [], ◌∷◌, map}
use Prim.Native.Nat.{ℕ, zero, suc, ◌≤◌, ◌<◌}
use native.Mathlib.Omega.{arith}
use lib.Dec.{ltb}
use lib.ListN.{length, get_or, drop}
use borrow.Author.Tests.{ltb-true}
use Rattle.job.specs.declared.record.Job.{Job}
use Rattle.job.specs.Limit.{relaxed}
use Rattle.job.specs.Told.{Told, row}
use Rattle.job.proofs.TestLaws.{four}
use Rattle.job.specs.Check.{job_told, otherwise, jobs_told, list_told}
use Rattle.job.specs.Filled.{filled_upto}
use Rattle.admission.specs.Divisor.{gcd_in, gcd}
use Rattle.admission.specs.Cycle.{lcm, cycle_upto}
use Rattle.admission.specs.Load.{load_upto}
use Rattle.admission.specs.Verdict.{judged_told, verdict_told}
use Rattle.place.specs.Place.{window_left, left_of, finished_of, owed_of, eligible_of, numerator_of, overdue_of, finishes_of, tags_of, first_tagged, served_of, given_of, worked_of, window_ends, short_of, turned_of, moved_of}
use Rattle.place.specs.Choice.{room_of, takes_spare, candidate_of, due_away, distance_of, nearer_of, better_of}
use Rattle.run.specs.declared.answer.Slot.{Slot}
use Rattle.run.specs.State.{fresh_of}
use Rattle.run.specs.Choice.{held_upto, chosen_of}
use Rattle.run.specs.Slot.{choice_of, places_upto, mask_upto, count_upto, all_moved, turn_of}
use Rattle.run.specs.Run.{after_slots}
use Rattle.run.proofs.CallLaws.{slots_at, run_slots}
use Rattle.rules.specs.Meaning.{no_slot}
use Rattle.lawful.proofs.NeverShort.{never_short}
use Rattle.promises.specs.Cases.{listed}
use Rattle.promises.specs.Published.{orders, virtual_order, late_slot, Refutes, TheoremThreeFails}

-- whether that slot ends a window short
unfoldable short_then : List Job → ℕ → Bool → Bool
short_then jobs model spare = ltb 0 (turn_of (after_slots (fresh_of (listed jobs) (virtual_order model spare)) late_slot)).slot.shorts

-- .. in either model, spare on or off
unfoldable always_short : List Job → Bool
always_short jobs = short_then jobs 0 false && short_then jobs 0 true && short_then jobs 1 false && short_then jobs 1 true

-- what is shown of a list, and what is claimed of it
abbrev shown : List Job → Told × Bool
shown jobs = (verdict_told (listed jobs) relaxed, always_short jobs)

abbrev claim : Told × Bool
claim = (row 0 (40 ∷ 39 ∷ []), true)

computed : map shown orders ≡ map (λ (jobs : List Job). claim) orders
unfolding job_told otherwise jobs_told list_told gcd_in gcd lcm cycle_upto load_upto judged_told verdict_told filled_upto window_left left_of finished_of owed_of eligible_of numerator_of overdue_of finishes_of tags_of first_tagged served_of given_of worked_of window_ends short_of turned_of moved_of room_of takes_spare candidate_of due_away distance_of nearer_of better_of held_upto chosen_of choice_of places_upto mask_upto count_upto all_moved turn_of after_slots short_then always_short
computed = refl

module _ (jobs : List Job) (both : shown jobs ≡ claim) where
  verdict : verdict_told (listed jobs) relaxed ≡ row 0 (40 ∷ 39 ∷ [])
  verdict = ap (λ (x : Told × Bool). x.0) both

  short_at : (model : ℕ) → model ≤ 1 → (spare : Bool) → short_then jobs model spare ≡ true
  unfolding always_short
  short_at model low spare = go model low spare (four (short_then jobs 0 false) _ _ _ (ap (λ (x : Told × Bool). x.1) both))
    where
      go :
          (model : ℕ) → model ≤ 1 → (spare : Bool)
          → (short_then jobs 0 false ≡ true) × (short_then jobs 0 true ≡ true) × (short_then jobs 1 false ≡ true) × (short_then jobs 1 true ≡ true)
          → short_then jobs model spare ≡ true
      go zero low false all = all.0
      go zero low true all = all.1
      go (suc zero) low false all = all.2
      go (suc zero) low true all = all.3
      go (suc (suc n)) low spare all = absurd (omega arith)

  refutes : Refutes jobs
  unfolding short_then
  refutes =
      record {
        admitted = sym verdict;
        short_in_v =
            λ model low spare slots state run inside none.
            let some = ltb-true 0 (turn_of (after_slots (fresh_of (listed jobs) (virtual_order model spare)) late_slot)).slot.shorts (short_at model low spare) in
            absurd (omega (arith, ap (λ (x : Slot). x.shorts) (slots_at no_slot (run_slots run) late_slot inside)));
        never_in_w = λ spare slots state run. (never_short (listed jobs) (40, 39, sym verdict) spare slots state run).0;
      }

-- each list of some, where it was computed of all
each_refuted : (lists : List (List Job)) → map shown lists ≡ map (λ (jobs : List Job). claim) lists → (i : ℕ) → i < length lists → Refutes (get_or lists i [])
each_refuted [] e i inside = absurd (omega arith)
each_refuted (jobs ∷ lists) e zero inside = refutes jobs (ap (λ (x : List (Told × Bool)). get_or x 0 claim) e)
each_refuted (jobs ∷ lists) e (suc i) inside = each_refuted lists (ap (drop 1) e) i (omega arith)

pub theorem_three_fails : TheoremThreeFails
theorem_three_fails = each_refuted orders computed
