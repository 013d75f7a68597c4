-- A sheet that is read has at most 16 jobs.
use mathlib.Core.Path.{◌≡◌, refl, ap}
use mathlib.Core.List.{List}
use Prim.Native.Nat.{ℕ, ◌≤◌}
use native.Mathlib.Omega.{arith}
use Rattle.std.specs.Prelude.{Result, Ok, Err}
use Rattle.job.specs.declared.refusal.Refusal.{Refusal}
use Rattle.job.specs.Limit.{count_most}
use Rattle.sheet.specs.declared.reading.Sheet.{Sheet}
use Rattle.sheet.specs.Promise.{ReadPromise}
use Rattle.sheet.proofs.Meaning.{reads_exactly}
use Rattle.below.proofs.main.Goals as goal

abbrev jobs_of : Result Sheet Refusal → ℕ
jobs_of (Ok sheet) = sheet.list.count
jobs_of (Err refusal) = 0

few_jobs : (bytes : List ℕ) (sheet : Sheet) → ReadPromise bytes (Ok sheet) → sheet.list.count ≤ count_most
few_jobs bytes sheet promise =
    let known = reads_exactly bytes (Ok sheet) promise in
    let listed = known.passing.0 refl in
    let back = known.values _ _ _ listed.sheet.is refl in
    let same : sheet.list.count ≡ back.0.list.count = ap jobs_of back.1.0 in
    omega (arith, back.1.1.count_is, listed.fact.1.count)

pub print_judged-requires : goal.print_judged-requires
print_judged-requires c = few_jobs _ _ c.in-Ok.ensures
