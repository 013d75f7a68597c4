-- The statements of specs/Meaning: the rows, each job's answer, and that it agrees with demand 3.
use mathlib.Core.Path.{◌≡◌, refl, sym, ap, subst, ◌∙◌}
use mathlib.Core.Logic.{◌↔◌, ◌⊎◌, inl, inr, ⊎_elim}
use mathlib.Core.Bool.{Bool, true, false}
use mathlib.Core.List.{List, []}
use Prim.Native.Nat.{ℕ, zero, suc, ◌≤◌, ◌<◌}
use native.Mathlib.Decide.{ℕ_discrete, dec_lt}
use native.Mathlib.Omega.{arith}
use lib.Dec.{eqb, ltb}
use lib.ListN.{get_or}
use borrow.Author.Tests.{ltb-true, ltb-false}
use Rattle.std.specs.Prelude.{None, Result, Ok, Err}
use Rattle.std.proofs.lemmas.Result.{IfOk-at_ok}
use Rattle.job.specs.declared.list.JobList.{JobList}
use Rattle.job.specs.declared.refusal.Refusal.{Refusal}
use Rattle.job.specs.Limit.{count_most, relaxed, cycle_most}
use Rattle.job.specs.Told.{Told, row, passed, told, told_checked}
use Rattle.job.specs.Check.{job_at}
use Rattle.job.specs.Sound.{SoundList}
use Rattle.job.proofs.TestLaws.{clash}
use Rattle.job.proofs.Meaning.{no_other_row}
use Rattle.job.proofs.FilledLaws.{filled_long, filled_at, filled_past}
use Rattle.job.proofs.ToldLaws.{apart, told_refuses, not_passed, refusal_one_to_one}
use Rattle.admission.specs.Cycle.{cycle_of}
use Rattle.admission.specs.Judged.{LeastCommonMultiple, Judged}
use Rattle.admission.proofs.CycleLaws.{cycle_multiple, cycle_is}
use Rattle.admission.proofs.LoadLaws.{load_is}
use Rattle.admission.proofs.Meaning.{row_nine_exactly}
use Rattle.place.specs.declared.setting.Setting.{Setting}
use Rattle.place.specs.Sound.{Allowed}
use Rattle.run.specs.State.{fresh_of}
use Rattle.run.specs.Calls.{bytes_of}
use Rattle.run.specs.Step.{start_told}
use Rattle.run.specs.SlotMeaning.{how_many}
use Rattle.run.proofs.CallLaws.{bytes_long}
use Rattle.run.proofs.SlotLaws.{count_is}
use Rattle.rules.proofs.Meaning.{run_exists}
use Rattle.lawful.specs.Lawful.{Full}
use Rattle.lawful.specs.DemandThree.{window_order}
use Rattle.lawful.proofs.OnTimeLaws.{window_allowed}
use Rattle.lawful.proofs.AdmittedLaws.{Holds, admits_exactly}
use Rattle.lawful.proofs.Timetable.{full_holds}
use Rattle.lawful.proofs.FullLaws.{none_short}
use Rattle.lawful.proofs.NeverShort.{none_counted, ends_full}
use Rattle.shortfall.specs.declared.inner.Tally.{Tally}
use Rattle.shortfall.specs.declared.answer.Below.{Below}
use Rattle.run.specs.declared.answer.Started.{Started}
use Rattle.run.specs.Promise.{StartPromise}
use Rattle.shortfall.specs.declared.answer.Judgement.{Judgement}
use Rattle.shortfall.specs.Tally.{no_tally, tally_of, tally_at, tallies_of}
use Rattle.shortfall.specs.Shortfall.{below_of, shortfall_told, cycle_judged}
use Rattle.shortfall.specs.Promise.{ShortfallPromise}
use Rattle.shortfall.specs.Meaning.{JobTold, nothing, CycleIs, JobsTold, ShortfallTold, ShortfallAnswers, AdmittedNever, OverFalls}
use Rattle.shortfall.proofs.CountLaws.{many_past}
use Rattle.shortfall.proofs.TallyLaws.{never_none, none_never}
use Rattle.shortfall.proofs.JobMeaning.{none_tallied, job_told_lem}
use Rattle.shortfall.proofs.JudgeLaws.{RowView, strange, faulty, too_long, judgeable, row_view, start_first}

-- the answers of a list that passes, job by job
module _ (l : JobList) (setting : Setting) (few : l.count ≤ count_most) where
  abbrev one : ℕ → Below
  one j = below_of (job_at l.jobs j) (cycle_of l) (tally_at (tallies_of (fresh_of l setting) (cycle_of l)) j)

  tally_at_lem : (j : ℕ) → j < l.count → tally_at (tallies_of (fresh_of l setting) (cycle_of l)) j ≡ tally_of (fresh_of l setting) j (cycle_of l)
  tally_at_lem j listed = filled_at no_tally (λ i. tally_of (fresh_of l setting) i (cycle_of l)) l.count j listed few

  below_at : (j : ℕ) → j < l.count → get_or (cycle_judged l setting).jobs j nothing ≡ below_of (job_at l.jobs j) (cycle_of l) (tally_of (fresh_of l setting) j (cycle_of l))
  below_at j listed = filled_at nothing one l.count j listed few ∙ ap (below_of (job_at l.jobs j) (cycle_of l)) (tally_at_lem j listed)

  below_past : (j : ℕ) → l.count ≤ j → get_or (cycle_judged l setting).jobs j nothing ≡ nothing
  below_past j past = filled_past nothing one l.count j past

  fallen_is : (cycle_judged l setting).fallen ≡ how_many (λ j. ltb 0 (get_or (cycle_judged l setting).jobs j nothing).short) count_most
  fallen_is =
      count_is _ (λ j. ltb 0 (get_or (cycle_judged l setting).jobs j nothing).short) l.count
      (λ j listed. sym (ap (λ (x : Below). ltb 0 x.short) (filled_at nothing one l.count j listed few)))
      ∙ many_past _ l.count count_most few (λ j past. ap (λ (x : Below). ltb 0 x.short) (below_past j past))

-- the answers of a list that is sound, of a cycle within the limit
module _ (l : JobList) (setting : Setting) (sound : SoundList l) (allowed : Allowed setting) (short : cycle_of l ≤ cycle_most) where
  jobs_told_lem : JobsTold l setting (cycle_judged l setting)
  jobs_told_lem =
      let few = sound.count.high in
      record {
        long = filled_long nothing (one l setting few) l.count;
        jobs =
            λ h cycle j listed.
            let same : h ≡ cycle_of l = cycle_is l sound cycle in
            subst (JobTold l setting h j)
            (ap (λ (x : ℕ). below_of (job_at l.jobs j) x (tally_of (fresh_of l setting) j x)) same
            ∙ sym (below_at l setting few j listed))
            (job_told_lem l setting sound allowed h cycle (omega arith) j listed);
        others = below_past l setting few;
        fallen = fallen_is l setting few;
      }

-- an answer of which what is told is known
refused_is : {A : Type 0} (r : Result A Refusal) (x : Refusal) → told_checked r ≡ told x → r ≡ Err x
refused_is (Ok a) x e = absurd (not_passed x (sym e))
refused_is (Err y) x e = ap Err (refusal_one_to_one y x e)

passed_is : {A : Type 0} (r : Result A Refusal) → told_checked r ≡ passed → (a : A) × (r ≡ Ok a)
passed_is (Ok a) e = (a, refl)
passed_is (Err x) e = absurd (not_passed x e)

-- whatever the promise allows
module _ (l : JobList) (setting : Setting) (r : Result Judgement Refusal) (promise : ShortfallPromise l setting r) where
  told_is : {q : Result Judgement Refusal} → r ≡ q → shortfall_told l setting ≡ told_checked q
  told_is e = sym promise.0 ∙ ap (λ (x : Result Judgement Refusal). told_checked x) e

  judged_is : {a : Judgement} → r ≡ Ok a → a ≡ cycle_judged l setting
  judged_is e = IfOk-at_ok (λ (a : Judgement). a ≡ cycle_judged l setting) e promise.1

  starts_first : (s : Started) → StartPromise l setting s → (x : Refusal) → s.answer ≡ Err x → r ≡ Err x
  starts_first s start x e =
      let refused : start_told l setting ≡ told x = sym start.0 ∙ ap (λ (a : Result Unit Refusal). told_checked a) e in
      refused_is r x
      (promise.0 ∙ start_first l setting (ap (λ (t : Told). eqb t.number 0) refused ∙ told_refuses x) ∙ refused)

  long_told : (told_checked r ≡ row 8 []) ↔ ((h : ℕ) × CycleIs l setting h × (cycle_most < h))
  long_told = (λ e. to (row_view l setting) (sym promise.0 ∙ e), from (row_view l setting))
    where
      to : RowView l setting → shortfall_told l setting ≡ row 8 [] → (h : ℕ) × CycleIs l setting h × (cycle_most < h)
      to (strange none-such x) e = absurd (apart (sym x ∙ e) refl)
      to (faulty a broken x refuses) e = absurd (no_other_row l refl refl refl (sym x ∙ e))
      to (too_long a s long x) e = (cycle_of l, record { allowed = a; sound = s; cycle = cycle_multiple l s }, long)
      to (judgeable a s short x) e = absurd (apart (sym x ∙ e) refl)

      from : RowView l setting → (h : ℕ) × CycleIs l setting h × (cycle_most < h) → told_checked r ≡ row 8 []
      from (strange none-such x) h = absurd (none-such h.1.allowed)
      from (faulty a broken x refuses) h = absurd (broken h.1.sound)
      from (too_long a s long x) h = promise.0 ∙ x
      from (judgeable a s short x) h = absurd (omega (arith, cycle_is l s h.1.cycle, h.2))

  pass_told : ((a : Judgement) × (r ≡ Ok a)) ↔ ((h : ℕ) × CycleIs l setting h × (h ≤ cycle_most))
  pass_told = (λ p. to (row_view l setting) (told_is p.1), from (row_view l setting))
    where
      refuses : {t : Told} → shortfall_told l setting ≡ t → eqb t.number 0 ≡ false → shortfall_told l setting ≡ passed → ⊥
      refuses x so e = clash so (ap (λ (t : Told). eqb t.number 0) (sym x ∙ e))

      to : RowView l setting → shortfall_told l setting ≡ passed → (h : ℕ) × CycleIs l setting h × (h ≤ cycle_most)
      to (strange none-such x) e = absurd (refuses x refl e)
      to (faulty a broken x so) e = absurd (refuses x so e)
      to (too_long a s long x) e = absurd (refuses x refl e)
      to (judgeable a s short x) e = (cycle_of l, record { allowed = a; sound = s; cycle = cycle_multiple l s }, short)

      from : RowView l setting → (h : ℕ) × CycleIs l setting h × (h ≤ cycle_most) → (a : Judgement) × (r ≡ Ok a)
      from (strange none-such x) h = absurd (none-such h.1.allowed)
      from (faulty a broken x so) h = absurd (broken h.1.sound)
      from (too_long a s long x) h = absurd (omega (arith, cycle_is l s h.1.cycle, h.2))
      from (judgeable a s short x) h = passed_is r (promise.0 ∙ x)

  told_of : (a : Judgement) → r ≡ Ok a → JobsTold l setting a
  told_of a e =
      let facts = pass_told.0 (a, e) in
      subst (JobsTold l setting) (sym (judged_is e))
      (jobs_told_lem l setting facts.1.sound facts.1.allowed (omega (arith, cycle_is l facts.1.sound facts.1.cycle, facts.2)))

  told_lem : ShortfallTold l setting r
  told_lem = record { starts = starts_first; row_eight = long_told; passes = pass_told; told = told_of }

pub shortfall_answers : ShortfallAnswers
shortfall_answers = told_lem

-- an answer of which every job's tally is empty
module _ (l : JobList) (setting : Setting) (few : l.count ≤ count_most) (none : (j : ℕ) → j < l.count → tally_of (fresh_of l setting) j (cycle_of l) ≡ no_tally) where
  all_never : (j : ℕ) → ((get_or (cycle_judged l setting).jobs j nothing).short ≡ 0) × ((get_or (cycle_judged l setting).jobs j nothing).first ≡ None)
  all_never j = go (dec_lt j l.count)
    where
      go : Dec (j < l.count) → ((get_or (cycle_judged l setting).jobs j nothing).short ≡ 0) × ((get_or (cycle_judged l setting).jobs j nothing).first ≡ None)
      go (yes listed) =
          let empty = below_at l setting few j listed ∙ ap (below_of (job_at l.jobs j) (cycle_of l)) (none j listed) in
          (ap (λ (x : Below). x.short) empty, ap (λ (x : Below). x.first) empty)
      go (no past) =
          let empty = below_past l setting few j (omega arith) in
          (ap (λ (x : Below). x.short) empty, ap (λ (x : Below). x.first) empty)

pub admitted_never : AdmittedNever
admitted_never l admits spare r promise =
    let holds : Holds l = (admits_exactly l).0 admits in
    let setting : Setting = window_order spare in
    let sound = holds.sound in
    let few = sound.count.high in
    let passes : (a : Judgement) × (r ≡ Ok a) =
    (pass_told l setting r promise).1 (cycle_of l, record { allowed = window_allowed; sound = sound; cycle = cycle_multiple l sound }, holds.short) in
    let is = judged_is l setting r promise passes.1 in
    let none = all_never l setting few
    (λ j listed.
    none_tallied l setting sound window_allowed (cycle_of l) (cycle_multiple l sound) holds.short j listed
    (λ slots state run n inside. ends_full l admits spare slots state run n (omega (arith, bytes_long slots)) j listed)) in (
      passes.0,
      passes.1,
      ap (λ (x : Judgement). x.fallen) is ∙ fallen_is l setting few ∙ none_counted _ count_most (λ j inside. ap (ltb 0) (none j).0),
      λ j. ap (λ (x : Judgement). (get_or x.jobs j nothing).first) is ∙ (none j).1,
    )

-- some number below n has a property, or none has
some_or_none : (f : ℕ → Bool) (n : ℕ) → ((j : ℕ) × (j < n) × (f j ≡ true)) ⊎ ((j : ℕ) → j < n → f j ≡ false)
some_or_none f zero = inr (λ j h. absurd (omega arith))
some_or_none f (suc n) = go (f n) refl (some_or_none f n)
  where
    go :
        (b : Bool) → f n ≡ b → ((j : ℕ) × (j < n) × (f j ≡ true)) ⊎ ((j : ℕ) → j < n → f j ≡ false)
        → ((j : ℕ) × (j < suc n) × (f j ≡ true)) ⊎ ((j : ℕ) → j < suc n → f j ≡ false)
    go true e before = inl (n, omega arith, e)
    go false e (inl some) = inl (some.0, (let h = some.1 in omega arith), some.2)
    go false e (inr none) = inr (λ j h. last j h (ℕ_discrete j n))
      where
        last : (j : ℕ) → j < suc n → Dec (j ≡ n) → f j ≡ false
        last j h (yes same) = rw same e
        last j h (no other) = none j (omega arith)

-- some job falls below
abbrev Falls : JobList → Judgement → Type 0
Falls l a = (j : ℕ) × (j < l.count) × ((get_or a.jobs j nothing).first ≡ None → ⊥)

-- a full cycle has room for the load, so a list over its cycle has a short window in it, in any order
pub over_falls : OverFalls
over_falls l h d over setting allowed by_units_lem r promise =
    let one = ⊎_elim some none (some_or_none falls l.count) in
    (passes.0, passes.1, one.0, one.1, one.2)
  where
    facts : Judged l relaxed h d × (h < d)
    facts = (row_nine_exactly l relaxed h d).0 (sym over)

    sound : SoundList l
    sound = facts.0.sound

    cycle : LeastCommonMultiple l h
    cycle = facts.0.cycle

    same : h ≡ cycle_of l
    same = cycle_is l sound cycle

    tally : ℕ → Tally
    tally j = tally_of (fresh_of l setting) j h

    falls : ℕ → Bool
    falls j = ltb 0 (tally j).short

    passes : (a : Judgement) × (r ≡ Ok a)
    passes = (pass_told l setting r promise).1 (h, record { allowed = allowed; sound = sound; cycle = cycle }, facts.0.cycle_short)

    some : (j : ℕ) × (j < l.count) × (falls j ≡ true) → Falls l passes.0
    some found =
        let j = found.0 in (
          j,
          found.1,
          λ never.
              let first : (get_or passes.0.jobs j nothing).first ≡ (tally j).first =
              ap (λ (x : Judgement). (get_or x.jobs j nothing).first) (judged_is l setting r promise passes.1)
              ∙ ap (λ (x : Below). x.first) (below_at l setting sound.count.high j found.1)
              ∙ ap (λ (x : ℕ). (tally_of (fresh_of l setting) j x).first) (sym same) in
              absurd (omega (arith, never_none (fresh_of l setting) j h (sym first ∙ never), ltb-true 0 (tally j).short found.2)),
        )

    none : ((j : ℕ) → j < l.count → falls j ≡ false) → Falls l passes.0
    none empty =
        let run = run_exists l setting sound allowed h (let short = facts.0.cycle_short in omega arith) in
        let bytes : List ℕ = bytes_of run.slots in
        let full : Full l bytes =
        none_short l sound setting by_units_lem bytes
        (λ i listed.
        let zero-short : (tally i).short ≡ 0 = let low = ltb-false 0 (tally i).short (empty i listed) in omega arith in
        (job_told_lem l setting sound allowed h cycle facts.0.cycle_short i listed).never.0 (none_never (fresh_of l setting) i h zero-short) run.slots run.state run.run) in
        absurd
        (omega
        (arith, facts.1, load_is facts.0.load, full_holds l h cycle.common bytes (bytes_long run.slots ∙ run.long) full))
