-- A buffer after a write, in parts: what is written, and what stays before and behind it.
use mathlib.Core.Path.{◌≡◌, refl, sym, ap, ◌∙◌}
use mathlib.Core.List.{List, ◌++◌}
use Prim.Native.Nat.{ℕ, ◌+◌, ◌≤◌}
use native.Mathlib.Omega.{arith}
use lib.ListN.{length, take, drop}
use lib.Seq.{take_at, drop_at, drop-drop, length-take-le}
use Rattle.text.specs.Written.{written}

module _ (bytes : List ℕ) (at : ℕ) (new : List ℕ) (room : at + length new ≤ length bytes) where
  front_long : length (take at bytes) ≡ at
  front_long = length-take-le at bytes (omega arith)

  pub written_front : take at (written bytes at new) ≡ take at bytes
  written_front = take_at (take at bytes) (new ++ drop (at + length new) bytes) at front_long

  from_there : drop at (written bytes at new) ≡ new ++ drop (at + length new) bytes
  from_there = drop_at (take at bytes) (new ++ drop (at + length new) bytes) at front_long

  pub written_part : take (length new) (drop at (written bytes at new)) ≡ new
  written_part = ap (take (length new)) from_there ∙ take_at new (drop (at + length new) bytes) (length new) refl

  pub written_rest : drop (at + length new) (written bytes at new) ≡ drop (at + length new) bytes
  written_rest =
      sym (drop-drop (length new) at (written bytes at new))
      ∙ ap (drop (length new)) from_there
      ∙ drop_at new (drop (at + length new) bytes) (length new) refl
