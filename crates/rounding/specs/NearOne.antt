-- What demand 3 says of one row: "every filtered probability is at least zero, and each row's exact total differs from one by at most m / 2^52, m being
-- the number of windows." Exact totals are whole numbers in units of 2 ^ -1074: one is 2 ^ 1074, and m / 2 ^ 52 is m * 2 ^ 1022 (document 01, "How much a
-- contract says").
use Rattle.std.specs.Prelude.{ℕ, ◌+◌, ◌*◌, ◌^◌, ◌<◌, ◌≤◌, T, Float}
use Rattle.std.specs.Float.{binary64}
use Rattle.rounding.specs.Units.{in_units}
use Rattle.rounding.specs.Sums.{good, sum_to}

-- the exact total of k numbers not below zero, in units of 2 ^ -1074
abbrev pub exact_total : ℕ → (ℕ → Float) → ℕ
exact_total k x = sum_to (λ s. in_units binary64 (x s)) k

-- one, and m / 2 ^ 52, in these units
abbrev pub unity : ℕ
unity = 2 ^ 1074

abbrev pub allowed : ℕ → ℕ
allowed m = m * 2 ^ 1022

-- k probabilities that come from m windows: each is finite and at least zero, and their exact total differs from one by at most m / 2 ^ 52
pub record NearOne (k m : ℕ) (x : ℕ → Float) : Type 0 where
  pub each : (s : ℕ) → s < k → T (good binary64 (x s))
  pub not_above : exact_total k x ≤ unity + allowed m
  pub not_below_lem : unity ≤ exact_total k x + allowed m
