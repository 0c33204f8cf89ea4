-- A bound on a number above zero is one on the exponent's field of its pattern. Assumes nothing.
use mathlib.Core.Bool.{true, false, true≢false}
use mathlib.Core.Logic.{inl, inr}
use Prim.Native.Nat.{ℕ, zero, suc, ◌+◌, ◌*◌, ◌/◌, ◌%◌, ◌^◌, ◌≤◌, ◌<◌}
use native.Mathlib.Nat.{le_trans, le_of_eq, lt_irrefl, lt_of_lt_of_le, lt_of_le_of_lt, mul-le-mul_right, mul-lt-mul_of_pos_right}
use native.Mathlib.Omega.{arith}
use lib.Pow.{pow_mono}
use lib.Dec.{T, lt→ltb}
use lib.Ieee.{Float, nan, inf, fin, binary64, up, down, to_bits, fits}
use lib.Ieee.Fits.{down_pos}
use lib.Ieee.Exact.{HasValue}
use lib.Ieee.Positive.{positive, through}
use Rattle.rounding.specs.Bounds.{Within, From}
use Rattle.rounding.proofs.Choose.{le_or_lt}
use Rattle.rounding.proofs.Intervals.{not_zero}
use Rattle.rounding.proofs.SignedSum.{units_within}
use Rattle.rounding.proofs.Pattern.{units_at, pattern_units, units_lt, units_ge, pattern}

-- the bound from below in units of 2 ^ -1074
from_units : (y : Float) (w a c : ℕ) → HasValue y false w (2 ^ 1074) → From false y a c → a * 2 ^ 1074 ≤ w * c
from_units nan w a c v f = absurd v
from_units (inf s) w a c v f = absurd v
from_units (fin s m e) w a c v f = through a (m * up e) w c (down e) (2 ^ 1074) (down_pos e) f.1 (le_of_eq v.1)

pub is_positive : (y : Float) (a c : ℕ) → 0 < a → From false y a c → T (positive y)
is_positive nan a c A f = absurd f
is_positive (inf s) a c A f = absurd f
is_positive (fin true m e) a c A f = absurd (true≢false f.0)
is_positive (fin false m e) a c A f = lt→ltb 0 m (not_zero m (up e) c a (down e) A (down_pos e) f.1)

-- y is at least a / c, and a field of x or less stands for less than that: the field is above x
pub field_above : (y : Float) (a c x : ℕ) → T (fits binary64 y) → 0 < a → 0 < c → From false y a c → 2 ^ (52 + x) * c ≤ a * 2 ^ 1074 → x < to_bits binary64 y / 2 ^ 52
field_above y a c x f A C h k = elim (le_or_lt (b / 2 ^ 52) x) [
  | inl l ↦
      absurd
      (lt_irrefl (a * 2 ^ 1074)
      (lt_of_le_of_lt (from_units y (pattern_units b) a c (pattern y f (is_positive y a c A h)).value h)
      (lt_of_lt_of_le (mul-lt-mul_of_pos_right (lt_of_lt_of_le (units_lt (b / 2 ^ 52) (b % 2 ^ 52) (rest b)) (pow_mono (sums (b / 2 ^ 52) x l))) C) k)))
  | inr g ↦ g
]
  where
    b : ℕ
    b = to_bits binary64 y

    rest : (b : ℕ) → b % 2 ^ 52 < 2 ^ 52
    rest b = omega arith

    sums : (i x : ℕ) → i ≤ x → 52 + i ≤ 52 + x
    sums i x h = omega arith

-- y is at most a / c, and a field above x stands for more than that: the field is x or less
pub field_within : (y : Float) (a c x : ℕ) → T (fits binary64 y) → T (positive y) → 0 < c → Within y a c → a * 2 ^ 1074 < 2 ^ (52 + x) * c → to_bits binary64 y / 2 ^ 52 ≤ x
field_within y a c x f p C h k = elim (le_or_lt (b / 2 ^ 52) x) [
  | inl l ↦ l
  | inr g ↦
      absurd
      (lt_irrefl (a * 2 ^ 1074)
      (lt_of_lt_of_le k (le_trans (mul-le-mul_right c (larger (b / 2 ^ 52) (b % 2 ^ 52) g)) (units_within y false (pattern_units b) a c (pattern y f p).value h))))
]
  where
    b : ℕ
    b = to_bits binary64 y

    larger : (i t : ℕ) → x < i → 2 ^ (52 + x) ≤ units_at i t
    larger zero t g = absurd (omega arith)
    larger (suc i) t g = le_trans (pow_mono (sums i g)) (units_ge i t)
      where
        sums : (i : ℕ) → x < suc i → 52 + x ≤ 52 + i
        sums i g = omega arith
