-- The table 'Quantity, Allowed' of document 01. The code names the same numbers as associated constants.
use Rattle.std.specs.Prelude.{ℕ}

-- 'jobs: 1 to 16'
abbrev pub count_most : ℕ
count_most = 16

-- 'T: 1 to 4,096'
abbrev pub t_most : ℕ
t_most = 4096

-- 'k: 1 to 255'
abbrev pub k_most : ℕ
k_most = 255

-- 'common cycle, admission only: at most 16,777,216'
abbrev pub cycle_most : ℕ
cycle_most = 16777216

-- 'model 0 is relaxed, 1 is original'
abbrev pub relaxed : ℕ
relaxed = 0

abbrev pub original : ℕ
original = 1
