-- A fraction, and how small a distance is: no product of two of them is past 64 bits.
use Rattle.std.specs.Prelude.{ℕ, ℤ, ◌≤◌, nat_abs}

-- num / den
pub record Ratio : Type 0 where
  pub num : ℤ
  pub den : ℕ

-- what the distance of a sound place keeps to
pub record Small (d : Ratio) : Type 0 where
  pub num_high : nat_abs d.num ≤ 2088960
  pub den_high : d.den ≤ 255
