-- A buffer with a text written from a place on; its other bytes stay.
use Rattle.std.specs.Prelude.{ℕ, ◌+◌, List, ◌++◌, length, take, drop}

abbrev pub written : List ℕ → ℕ → List ℕ → List ℕ
written bytes at text = take at bytes ++ (text ++ drop (at + length text) bytes)
