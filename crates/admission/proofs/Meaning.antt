-- What each row of the verdict says, and that it is given wherever that holds; from these laws, the statement of specs/Meaning.
use mathlib.Core.Path.{◌≡◌, refl, sym, ◌∙◌, subst}
use mathlib.Core.Bool.{Bool, true, false, cond}
use mathlib.Core.Logic.{◌↔◌}
use mathlib.Core.List.{List, [], ◌∷◌}
use Prim.Native.Nat.{ℕ, ◌≤◌, ◌<◌}
use native.Mathlib.Omega.{arith}
use lib.Dec.{eqb, ltb}
use borrow.Author.Tests.{ltb-true, ltb-false, eqb-true, eqb-false}
use Rattle.job.specs.declared.list.JobList.{JobList}
use Rattle.job.specs.Limit.{count_most, relaxed, original, cycle_most}
use Rattle.job.specs.Told.{Told, row}
use Rattle.job.specs.Check.{job_at}
use Rattle.job.specs.Sound.{SoundList, LowestFault}
use Rattle.job.proofs.Meaning.{ListView, no_jobs, many_jobs, sound_list, faulty_list, list_view, fault_refuses, passes_exactly, row_one_exactly as list-one, row_two_exactly as list-two, job_rows_exactly as list_rows}
use Rattle.admission.specs.Cycle.{cycle_of}
use Rattle.admission.specs.Load.{load_of}
use Rattle.admission.specs.Verdict.{judged_told, verdict_told}
use Rattle.admission.specs.Judged.{LeastCommonMultiple, Judged}
use Rattle.admission.specs.Meaning.{VerdictRows, Verdicts}
use Rattle.admission.proofs.CycleLaws.{cycle_multiple, cycle_is}
use Rattle.admission.proofs.LoadLaws.{load_is, load_exact}
use Rattle.admission.proofs.VerdictLaws.{judged_over, judged_admitted, verdict_strange, verdict_refused, verdict_original, verdict_long, verdict_judged}

-- what a row says of a list and a model
abbrev RowSays : JobList → ℕ → ℕ → List ℕ → Type 0
RowSays l model n [] =
    cond (eqb n 15) (original < model)
    (cond (eqb n 1) ((model ≤ original) × (l.count ≡ 0))
    (cond (eqb n 2) ((model ≤ original) × (count_most < l.count))
    (cond (eqb n 7) ((model ≡ original) × SoundList l)
    (cond (eqb n 8) ((model ≡ relaxed) × SoundList l × (h : ℕ) × LeastCommonMultiple l h × (cycle_most < h)) ⊥))))
RowSays l model n (i ∷ []) = (model ≤ original) × LowestFault l n i
RowSays l model n (h ∷ d ∷ []) =
    cond (eqb n 9) (Judged l model h d × (h < d)) (cond (eqb n 0) (Judged l model h d × (d ≤ h)) ⊥)
RowSays l model n (x ∷ y ∷ z ∷ more) = ⊥

abbrev Says : JobList → ℕ → Told → Type 0
Says l model t = RowSays l model t.number t.values

module _ (l : JobList) (model : ℕ) where
  -- where what a row says holds, that row is given
  abbrev Given : Told → Type 0
  Given t = Says l model t → verdict_told l model ≡ t

  one_given : Given (row 1 [])
  one_given s = verdict_refused l model s.0 ((list-one l).1 s.1) refl

  two_given : Given (row 2 [])
  two_given s = verdict_refused l model s.0 ((list-two l).1 s.1) refl

  fault_given : (n i : ℕ) → Given (row n (i ∷ []))
  fault_given n i s =
      verdict_refused l model s.0 ((list_rows l n i).1 s.1) (fault_refuses (job_at l.jobs i) n s.1.fault)

  seven_given : Given (row 7 [])
  seven_given s = verdict_original l model ((passes_exactly l).1 s.1) s.0

  eight_given : Given (row 8 [])
  eight_given s =
      verdict_long l model ((passes_exactly l).1 s.1) s.0
      (subst (λ (h : ℕ). cycle_most < h) (cycle_is l s.1 s.3) s.4)

  judged_given : {h d : ℕ} → Judged l model h d → verdict_told l model ≡ judged_told h d
  judged_given {h} j =
      let cycle : h ≡ cycle_of l = cycle_is l j.sound j.cycle in
      cc (verdict_judged l model ((passes_exactly l).1 j.sound) j.model_relaxed (omega arith), load_is j.load)

  nine_given : (h d : ℕ) → Given (row 9 (h ∷ d ∷ []))
  nine_given h d s = judged_given s.0 ∙ judged_over s.1

  admitted_given : (h d : ℕ) → Given (row 0 (h ∷ d ∷ []))
  admitted_given h d s = judged_given s.0 ∙ judged_admitted s.1

  -- the row that is given says what holds
  say : (t : Told) → Given t → Says l model t → Says l model (verdict_told l model)
  say t given s = subst (Says l model) (sym (given s)) s

  passing : SoundList l → model ≤ original → Says l model (verdict_told l model)
  passing s allowed =
      go (eqb model original) (ltb cycle_most (cycle_of l)) (ltb (cycle_of l) (load_of l (cycle_of l))) refl refl refl
    where
      judged : eqb model original ≡ false → ltb cycle_most (cycle_of l) ≡ false → Judged l model (cycle_of l) (load_of l (cycle_of l))
      judged other long =
          let different = eqb-false model original other in
          record {
            model_relaxed = omega arith;
            sound = s;
            cycle = cycle_multiple l s;
            cycle_short = ltb-false cycle_most (cycle_of l) long;
            load = load_exact l (cycle_multiple l s).common;
          }

      go :
          (other long over : Bool) → eqb model original ≡ other → ltb cycle_most (cycle_of l) ≡ long
          → ltb (cycle_of l) (load_of l (cycle_of l)) ≡ over → Says l model (verdict_told l model)
      go true long over e f g = say (row 7 []) seven_given (eqb-true model original e, s)
      go false true over e f g =
          let different = eqb-false model original e in
          say (row 8 []) eight_given (omega arith, s, cycle_of l, cycle_multiple l s, ltb-true cycle_most (cycle_of l) f)
      go false false true e f g =
          say (row 9 (cycle_of l ∷ load_of l (cycle_of l) ∷ [])) (nine_given (cycle_of l) (load_of l (cycle_of l)))
          (judged e f, ltb-true (cycle_of l) (load_of l (cycle_of l)) g)
      go false false false e f g =
          say (row 0 (cycle_of l ∷ load_of l (cycle_of l) ∷ [])) (admitted_given (cycle_of l) (load_of l (cycle_of l)))
          (judged e f, ltb-false (cycle_of l) (load_of l (cycle_of l)) g)

  holds : Says l model (verdict_told l model)
  holds = go (ltb original model) refl (list_view l)
    where
      go : (strange : Bool) → ltb original model ≡ strange → ListView l → Says l model (verdict_told l model)
      go true e v = say (row 15 []) (verdict_strange l model) (ltb-true original model e)
      go false e (no_jobs h) = say (row 1 []) one_given (ltb-false original model e, h)
      go false e (many_jobs h) = say (row 2 []) two_given (ltb-false original model e, h)
      go false e (faulty_list n i f) = say (row n (i ∷ [])) (fault_given n i) (ltb-false original model e, f)
      go false e (sound_list s) = passing s (ltb-false original model e)

  exactly : (t : Told) → Given t → (verdict_told l model ≡ t) ↔ Says l model t
  exactly t given = (λ e. subst (Says l model) e holds, given)

pub row_fifteen_exactly : (l : JobList) (model : ℕ) → (verdict_told l model ≡ row 15 []) ↔ (original < model)
row_fifteen_exactly l model = exactly l model (row 15 []) (verdict_strange l model)

pub row_one_exactly :
    (l : JobList) (model : ℕ) → (verdict_told l model ≡ row 1 []) ↔ ((model ≤ original) × (l.count ≡ 0))
row_one_exactly l model = exactly l model (row 1 []) (one_given l model)

pub row_two_exactly :
    (l : JobList) (model : ℕ) → (verdict_told l model ≡ row 2 []) ↔ ((model ≤ original) × (count_most < l.count))
row_two_exactly l model = exactly l model (row 2 []) (two_given l model)

pub job_rows_exactly :
    (l : JobList) (model n i : ℕ) → (verdict_told l model ≡ row n (i ∷ [])) ↔ ((model ≤ original) × LowestFault l n i)
job_rows_exactly l model n i = exactly l model (row n (i ∷ [])) (fault_given l model n i)

pub row_seven_exactly : (l : JobList) (model : ℕ) → (verdict_told l model ≡ row 7 []) ↔ ((model ≡ original) × SoundList l)
row_seven_exactly l model = exactly l model (row 7 []) (seven_given l model)

pub row_eight_exactly :
    (l : JobList) (model : ℕ)
    → (verdict_told l model ≡ row 8 [])
    ↔ ((model ≡ relaxed) × SoundList l × (h : ℕ) × LeastCommonMultiple l h × (cycle_most < h))
row_eight_exactly l model = exactly l model (row 8 []) (eight_given l model)

pub row_nine_exactly :
    (l : JobList) (model h d : ℕ) → (verdict_told l model ≡ row 9 (h ∷ d ∷ [])) ↔ (Judged l model h d × (h < d))
row_nine_exactly l model h d = exactly l model (row 9 (h ∷ d ∷ [])) (nine_given l model h d)

pub admitted_exactly :
    (l : JobList) (model h d : ℕ) → (verdict_told l model ≡ row 0 (h ∷ d ∷ [])) ↔ (Judged l model h d × (d ≤ h))
admitted_exactly l model h d = exactly l model (row 0 (h ∷ d ∷ [])) (admitted_given l model h d)

pub verdicts : Verdicts
verdicts l model r e =
    subst (VerdictRows l model) (sym e)
    (record {
      row_fifteen = row_fifteen_exactly l model;
      row_one = row_one_exactly l model;
      row_two = row_two_exactly l model;
      job_rows = job_rows_exactly l model;
      row_seven = row_seven_exactly l model;
      row_eight = row_eight_exactly l model;
      row_nine = row_nine_exactly l model;
      admitted = admitted_exactly l model;
    })
