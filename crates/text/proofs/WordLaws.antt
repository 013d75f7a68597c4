-- A number of 32 bits as bytes: how many they are, that each is a byte, and that they read back as the number.
use mathlib.Core.Path.{◌≡◌, refl}
use Prim.Native.Nat.{ℕ, zero, suc, ◌+◌, ◌*◌, ◌^◌, ◌/◌, ◌%◌, ◌<◌}
use native.Mathlib.Omega.{arith}
use lib.ListN.{length, get_or}
use Rattle.text.specs.Word.{word_bytes}

pub word_long : (x : ℕ) → length (word_bytes x) ≡ 4
unfolding word_bytes
word_long x = refl

-- a number in its four parts
in_parts : (x : ℕ) → x < 2 ^ 32 → x ≡ x % 256 + 256 * (x / 256 % 256) + 65536 * (x / 65536 % 256) + 16777216 * (x / 16777216 % 256)
in_parts x fits =
    let second : x / 256 ≡ x / 256 % 256 + 256 * (x / 65536) = omega arith in
    let third : x / 65536 ≡ x / 65536 % 256 + 256 * (x / 16777216) = omega arith in
    let fourth : x / 16777216 ≡ x / 16777216 % 256 = omega arith in
    omega arith

-- low byte first
pub word_reads_back :
    (x : ℕ) → x < 2 ^ 32
    → x ≡ get_or (word_bytes x) 0 0 + 256 * get_or (word_bytes x) 1 0 + 65536 * get_or (word_bytes x) 2 0 + 16777216 * get_or (word_bytes x) 3 0
unfolding word_bytes
word_reads_back x fits = in_parts x fits

pub word_bytes_lem : (x i : ℕ) → i < 4 → get_or (word_bytes x) i 0 < 256
unfolding word_bytes
word_bytes_lem x zero h = omega arith
word_bytes_lem x (suc zero) h = omega arith
word_bytes_lem x (suc (suc zero)) h = omega arith
word_bytes_lem x (suc (suc (suc zero))) h = omega arith
word_bytes_lem x (suc (suc (suc (suc i)))) h = absurd (omega arith)
