-- A part of a line: a label and a number.
use Rattle.std.specs.Prelude.{ℕ, List, ◌++◌}
use Rattle.text.specs.Decimal.{decimal_of}

abbrev pub labelled : List ℕ → ℕ → List ℕ
labelled label x = label ++ decimal_of x
