-- The rows in their order, and past them the cycle that the list has.
use mathlib.Core.Path.{◌≡◌, sym, ap, ap₂, ◌∙◌}
use mathlib.Core.Bool.{Bool, true}
use Prim.Native.Nat.{ℕ}
use native.Mathlib.Omega.{arith}
use Rattle.std.proofs.lemmas.Result.{err_from_is_err_and}
use Rattle.job.specs.declared.list.JobList.{JobList}
use Rattle.job.proofs.Meaning.{passes_exactly}
use Rattle.job.proofs.ToldLaws.{told_refuses}
use Rattle.admission.proofs.CycleLaws.{told_short, told_long}
use Rattle.place.specs.declared.setting.Setting.{Setting}
use Rattle.place.specs.Setting.{setting_allowed}
use Rattle.place.specs.Sound.{Allowed}
use Rattle.place.proofs.Meaning.{allowed_exactly}
use Rattle.run.specs.State.{fresh_of}
use Rattle.shortfall.specs.Tally.{tallies_of}
use Rattle.shortfall.specs.Shortfall.{judged_of}
use Rattle.shortfall.proofs.JudgeLaws.{strange_told, refused_told, long_told, short_told}
use Rattle.shortfall.proofs.judge.shortfall.Goals as goal

-- past row 15
past : {setting : Setting} {r : Bool} → r ≡ setting_allowed setting → r ≡ true → Allowed setting
past {setting} e passes = (allowed_exactly setting).0 (sym e ∙ passes)

pub returns-then-not-allowed : goal.returns-then-not-allowed
returns-then-not-allowed c = (sym (strange_told c.args.list c.args.setting (sym c.allowed.ensures ∙ c.if-not-allowed.true)), tt)

pub returns-in_err-checked : goal.returns-in_err-checked
returns-in_err-checked c =
    let p = err_from_is_err_and c.from_residual.result c.from_residual.ensures.1 in
    let r = c.in_err-checked.field-0.0 in
    let allowed = past c.allowed.ensures c.if-not-allowed.false in
    rw (p.1, p.2)
    (sym (refused_told c.args.list c.args.setting allowed (sym c.in_err-checked.ensures.0) (told_refuses r)), tt)

pub returns-in_err-cycle : goal.returns-in_err-cycle
returns-in_err-cycle c =
    let p = err_from_is_err_and c.from_residual-in_err-cycle.result c.from_residual-in_err-cycle.ensures.1 in
    let list = c.args.list in
    let passes = c.in_ok-checked.ensures in
    let allowed = past c.allowed.ensures c.if-not-allowed.false in
    let refused = told_long _ c.in_err-cycle.field-0.0 (rw passes.1 at c.in_err-cycle.ensures) in
    rw (p.1, p.2)
    (refused.1 ∙ sym (long_told list c.args.setting allowed ((passes_exactly list).0 (sym passes.0)) refused.0), tt)

pub tallied-requires-clause-cycle_value : goal.tallied-requires-clause-cycle_value
tallied-requires-clause-cycle_value c = (told_short c.in_ok-cycle.ensures).0

pub returns : goal.returns
returns c =
    let list = c.args.list in
    let setting = c.args.setting in
    let passes = c.in_ok-checked.ensures in
    let allowed = past c.allowed.ensures c.if-not-allowed.false in
    let cycle = told_short (rw passes.1 at c.in_ok-cycle.ensures) in (
      sym (short_told list setting allowed ((passes_exactly list).0 (sym passes.0)) (omega (arith, cycle))),
      c.told.ensures
          ∙ ap (judged_of c.in_ok-checked.checked c.in_ok-cycle.cycle) c.tallied.ensures
          ∙ ap₂ (λ (l : JobList) (h : ℕ). judged_of l h (tallies_of (fresh_of l setting) h)) passes.1 cycle.0,
    )
