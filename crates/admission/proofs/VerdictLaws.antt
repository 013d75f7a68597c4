-- The verdict by its tests, in their order.
use mathlib.Core.Path.{◌≡◌, sym, ◌∙◌}
use mathlib.Core.Bool.{false}
use mathlib.Core.List.{[], ◌∷◌}
use Prim.Native.Nat.{ℕ, ◌≤◌, ◌<◌}
use native.Mathlib.Omega.{arith}
use lib.Dec.{eqb}
use Rattle.std.proofs.lemmas.Bool.Decides.{nat_tests}
use Rattle.job.specs.declared.list.JobList.{JobList}
use Rattle.job.specs.declared.refusal.Refusal.{Refusal}
use Rattle.job.specs.Limit.{relaxed, original, cycle_most}
use Rattle.job.specs.Told.{Told, row, passed, told}
use Rattle.job.specs.Check.{otherwise, list_told}
use Rattle.admission.specs.Cycle.{cycle_of, cycle_told}
use Rattle.admission.specs.Load.{load_of}
use Rattle.admission.specs.Verdict.{judged_told, verdict_told}
use Rattle.admission.proofs.CycleLaws.{told_long}

-- cycle and load
pub judged_over : {h d : ℕ} → h < d → judged_told h d ≡ row 9 (h ∷ d ∷ [])
unfolding judged_told
judged_over {h} {d} over = grind (arith, nat_tests)

pub judged_admitted : {h d : ℕ} → d ≤ h → judged_told h d ≡ row 0 (h ∷ d ∷ [])
unfolding judged_told
judged_admitted {h} {d} within = grind (arith, nat_tests)

module _ (l : JobList) (model : ℕ) where
  pub verdict_strange : original < model → verdict_told l model ≡ row 15 []
  unfolding verdict_told
  verdict_strange strange = grind (arith, nat_tests)

  pub verdict_refused : {t : Told} → model ≤ original → list_told l ≡ t → eqb t.number 0 ≡ false → verdict_told l model ≡ t
  unfolding verdict_told otherwise
  verdict_refused {t} allowed e refuses = grind (arith, nat_tests)

  module _ (passes : list_told l ≡ passed) where
    pub verdict_original : model ≡ original → verdict_told l model ≡ row 7 []
    unfolding verdict_told otherwise
    verdict_original same = grind (arith, nat_tests, passes)

    pub verdict_long : model ≡ relaxed → cycle_most < cycle_of l → verdict_told l model ≡ row 8 []
    unfolding verdict_told otherwise
    verdict_long same long = grind (arith, nat_tests, passes)

    pub verdict_judged :
        model ≡ relaxed → cycle_of l ≤ cycle_most → verdict_told l model ≡ judged_told (cycle_of l) (load_of l (cycle_of l))
    unfolding verdict_told otherwise
    verdict_judged same short = grind (arith, nat_tests, passes)

    pub verdict_no_cycle : model ≡ relaxed → (r : Refusal) → told r ≡ cycle_told l → verdict_told l model ≡ told r
    verdict_no_cycle same r e = let no = told_long (cycle_of l) r e in verdict_long same no.0 ∙ sym no.1
