-- What each public operation promises of its result, by name: the contracts in src/ cite these.
use Rattle.std.specs.Prelude.{ℕ, ◌≡◌, List, Result, IfOk}
use Rattle.job.specs.declared.refusal.Refusal.{Refusal}
use Rattle.job.specs.Told.{told_checked}
use Rattle.sheet.specs.declared.reading.Sheet.{Sheet}
use Rattle.sheet.specs.Sheet.{blank_sheet}
use Rattle.sheet.specs.Answer.{read_told, read_sheet}

-- `Sheet::blank`
abbrev pub BlankPromise : Sheet → Type 0
BlankPromise r = r ≡ blank_sheet

-- `read`
abbrev pub ReadPromise : List ℕ → Result Sheet Refusal → Type 0
ReadPromise bytes r = (told_checked r ≡ read_told bytes) × IfOk r (λ sheet. sheet ≡ read_sheet bytes)
