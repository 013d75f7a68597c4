-- The choices of a run in window order, read as a timetable: the slots of a job in its window, and when the window ends.
use mathlib.Core.Path.{◌≡◌, refl, sym, ap, ◌∙◌}
use mathlib.Core.Bool.{Bool, true, cond}
use mathlib.Core.List.{List, [], ◌∷◌}
use Prim.Native.Nat.{ℕ, ◌+◌, ◌-◌, ◌*◌, ◌%◌, ◌≤◌, ◌<◌}
use native.Mathlib.Nat.{mul_comm}
use native.Mathlib.Numerals.{add-one}
use native.Mathlib.Omega.{arith}
use lib.Dec.{eqb}
use lib.ListN.{length, take, drop}
use lib.Seq.{take-add, drop_at, drop-append-le, length-take-le}
use borrow.Author.Tests.{eq-eqb}
use Rattle.job.specs.declared.record.Job.{Job}
use Rattle.job.specs.declared.list.JobList.{JobList}
use Rattle.job.specs.Check.{job_at}
use Rattle.job.specs.Sound.{SoundList}
use Rattle.job.specs.Window.{window_of}
use Rattle.place.specs.declared.record.Place.{Place}
use Rattle.place.specs.Place.{window_ends}
use Rattle.run.specs.State.{clock_most, fresh_of}
use Rattle.run.specs.Sound.{SoundState}
use Rattle.run.specs.Run.{choices_of}
use Rattle.rules.specs.Rules.{slots_of, since_window, periods_begun}
use Rattle.run.proofs.HereLaws.{at, job_sound}
use Rattle.lawful.specs.DemandThree.{window_order}
use Rattle.rules.proofs.BytesLaws.{count_in_more}
use Rattle.place.proofs.CycleLaws.{cycle_ends}
use Rattle.run.proofs.TurnLaws.{next_byte, byte_at, byte_fair}
use Rattle.run.proofs.RunLaws.{choices_more, choices_long}
use Rattle.rules.proofs.HistoryLaws.{PlaceHistory}
use Rattle.rules.proofs.PlaceLaws.{ends_told}
use Rattle.rules.proofs.RunLaws.{place_sound, places_told}
use Rattle.lawful.proofs.UnitLaws.{used_of, used_most}
use Rattle.lawful.proofs.WorkLaws.{service_of, missed_of, missed_over}
use Rattle.lawful.proofs.OnTimeLaws.{window_allowed, run_of, run_units, run_listed, run_sound}
use Rattle.lawful.proofs.AdmittedLaws.{Holds, admitted_none_missed}

-- the choices of the run
abbrev pub run_bytes : Bool → JobList → ℕ → List ℕ
run_bytes spare l n = choices_of (fresh_of l (window_order spare)) n

-- a part of a list, seen from where it ends
pub part_of_front : (n m : ℕ) (bytes : List ℕ) → n ≤ length bytes → take m (drop n bytes) ≡ drop n (take (n + m) bytes)
part_of_front n m bytes h =
    sym
    (ap (drop n) (take-add n m bytes)
    ∙ drop_at (take n bytes) (take m (drop n bytes)) n (length-take-le n bytes h))

module _ (spare : Bool) (l : JobList) (sound : SoundList l) (i : ℕ) (listed : i < l.count) (n : ℕ) (below : n < clock_most) where
  abbrev job : Job
  job = job_at l.jobs i

  abbrev place : Place
  place = at (run_of spare l n) i

  abbrev chosen : Bool
  chosen = eqb (next_byte (run_of spare l n)) i

  place_told : PlaceHistory (window_order spare) job i n (run_bytes spare l n) place
  place_told = places_told l (window_order spare) sound window_allowed n (omega arith) i listed

  -- the slots of the window open in slot n, that slot counted
  slots_told : slots_of i (since_window job n (run_bytes spare l (n + 1))) ≡ used_of place chosen
  slots_told =
      let next : List ℕ = next_byte (run_of spare l n) ∷ [] in
      ap (λ (x : List ℕ). slots_of i (since_window job n x)) (choices_more (fresh_of l (window_order spare)) n)
      ∙ ap (slots_of i)
      (drop-append-le (n - n % window_of job) (run_bytes spare l n) next (omega (arith, choices_long (fresh_of l (window_order spare)) n)))
      ∙ count_in_more (λ b. eqb b i) (since_window job n (run_bytes spare l n)) (next_byte (run_of spare l n))
      ∙ ap (λ (u : ℕ). cond chosen (u + 1) u) (sym (place_told.u_is refl))

  -- they are at most C for each period begun
  pub slots_most_lem : slots_of i (since_window job n (run_bytes spare l (n + 1))) ≤ job.c * periods_begun job n
  slots_most_lem =
      let now : SoundState (run_of spare l n) = run_sound spare l sound n (omega arith) in
      let here : i < (run_of spare l n).count = run_listed spare l n listed in
      let c-same : place.job.c ≡ job.c = ap (λ (j : Job). j.c) place_told.same_job in
      rw (slots_told, mul_comm job.c (periods_begun job n), ← c-same, ← place_told.p_is)
      (used_most (job_sound now i here) (run_units spare l n) chosen (byte_fair (run_of spare l n) now i here))

  -- and at least m times C where the window ends
  pub slots_full :
      Holds l → n % window_of job + 1 ≡ window_of job → service_of job ≤ slots_of i (since_window job n (run_bytes spare l (n + 1)))
  slots_full holds closes =
      let now : SoundState (run_of spare l n) = run_sound spare l sound n (omega arith) in
      let here = place_sound l (window_order spare) sound window_allowed n (omega arith) i listed in
      let next : (n + 1) % window_of job ≡ 0 = ap (◌% window_of job) (add-one n) ∙ cycle_ends (window_of job) n closes in
      let over : window_ends place ≡ true =
      ends_told (window_order spare) job i n (run_bytes spare l n) place place_told here (sound.jobs i listed) (choices_long (fresh_of l (window_order spare)) n)
      ∙ eq-eqb ((n + 1) % window_of job) 0 next in
      let none : missed_of place chosen ≡ 0 =
      rw (byte_at (run_of spare l n) now i (run_listed spare l n listed)) (admitted_none_missed spare l holds n (omega arith) i listed) in
      rw (slots_told, ← place_told.same_job) (omega (arith, missed_over place chosen over))
