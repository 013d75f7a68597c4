-- What is said of each job of a judged list, and of the list.
use Rattle.std.specs.Prelude.{ℕ, cond, List, ◌++◌, eqb, Option, Some, None}
use Rattle.shortfall.specs.declared.answer.Below.{Below}
use Rattle.text.specs.Ascii.{ascii}
use Rattle.text.specs.Decimal.{decimal_of}
use Rattle.lines.specs.Parts.{labelled}

-- 'never below', or 'below in A of B windows a cycle, first in slot S'
abbrev pub fall_text : ℕ → ℕ → Option ℕ → List ℕ
fall_text short windows None = ascii " never below\n"
fall_text short windows (Some n) =
    labelled (ascii " below in ") short
    ++ (labelled (ascii " of ") windows ++ (labelled (ascii " windows a cycle, first in slot ") n ++ ascii "\n"))

-- 'job J', and how it falls
unfoldable pub below_text : ℕ → Below → List ℕ
below_text job b = labelled (ascii "job ") job ++ fall_text b.short b.windows b.first

-- 'no job falls below', or 'N of M jobs fall below'
unfoldable pub fallen_text : ℕ → ℕ → List ℕ
fallen_text fallen jobs =
    cond (eqb fallen 0) (ascii "no job falls below\n")
    (decimal_of fallen ++ (labelled (ascii " of ") jobs ++ ascii " jobs fall below\n"))
