-- The bytes of a text, so that definitions can quote it.
use mathlib.Core.List as Bytes
use Rattle.std.specs.Prelude.{List, ℕ}
use Prim.Native.Char.{code}
use Prim.Native.String.{String, [], ◌∷◌}

abbrev pub ascii : String → List ℕ
ascii [] = Bytes.[]
ascii (c ∷ s) = Bytes.◌∷◌ (code c) (ascii s)
