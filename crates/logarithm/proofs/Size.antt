-- The logarithm of each finite number above zero is finite, and at most 746 in size. Assumes nothing.
use mathlib.Core.Path.{◌≡◌, refl, sym, ◌∙◌, subst}
use mathlib.Core.Bool.{true, false, true≢false}
use mathlib.Core.Logic.{inl, inr}
use Prim.Native.Nat.{ℕ, suc, ◌+◌, ◌-◌, ◌*◌, ◌/◌, ◌%◌, ◌^◌, ◌≤◌, ◌<◌}
use native.Mathlib.Nat.{le_trans, le_of_eq, lt_of_lt_of_le, lt_of_le_of_lt, not-le_of_lt, mul-le-mul_right, mul-pos}
use native.Mathlib.Omega.{arith}
use borrow.Author.Tests.{lt-ltb, le-ltb, le-leb, lt-leb, ne_eqb}
use lib.Dec.{T, ltb, lit<, lit≤}
use lib.Pow.{pow_pos, shl_lt}
use lib.Ieee.{Float, nan, inf, fin, binary64, up, down, neg, add, sub, round, of_bits, of_int, fits}
use lib.Ieee.Fits.{mul-fits, down_pos}
use lib.Ieee.Exact.{HasValue, round_exact}
use lib.Ieee.Back.{round_whole}
use lib.Ieee.Scale.{finite}
use lib.Ieee.Positive.{positive, positive_of_value, mul_at, through}
use Rattle.number.specs.Number.{◌⊖◌, ◌⊗◌, pattern_of, float, one}
use Rattle.rounding.specs.Bounds.{Within}
use Rattle.rounding.proofs.Choose.{le_or_lt}
use Rattle.rounding.proofs.Intervals.{Exact, Up, within_finite, within_round, within_difference}
use Rattle.rounding.proofs.Pattern.{pattern_units, units_mono, subnormal_units, units_of_lem, bits_value, Pattern, pattern}
use Rattle.logarithm.specs.Log.{dk_of, two54, log_normal, log_of}
use Rattle.logarithm.proofs.Bound.{pick, close_up, far_up}

-- ---- k

dk_up : (a base : ℕ) → a ≤ base + 1075 → base ≤ a + 1075 → Up (dk_of a base) 1075 1
unfolding of_int
dk_up a base h k = elim (le_or_lt base a) [
  | inl l ↦ rw (le-leb base a l) (record { pos = lit< tt; is = within_round false (a - base) 1 1075 1 (lit< tt) (lit< tt) (omega arith) (round_whole binary64 false 1075 (lit≤ tt)) })
  | inr l ↦ rw (lt-leb base a l) (record { pos = lit< tt; is = within_round true (suc (base - suc a)) 1 1075 1 (lit< tt) (lit< tt) (omega arith) (round_whole binary64 false 1075 (lit≤ tt)) })
]

-- ---- f, the distance from 1 of a number whose pattern is near that of 1

exact_7/16 : Exact 7 16
unfolding round
exact_7/16 = (refl, refl)

from_one : (y : Float) (p : ℕ) → HasValue y false (pattern_units p) (2 ^ 1074) → 0x3fe6_a09c * 2 ^ 32 ≤ p → p ≤ 0x3ff6_a09c * 2 ^ 32 → Within (y ⊖ one) 7 16
unfolding sub add neg of_bits
from_one nan p v h k = absurd v
from_one (inf r) p v h k = absurd v
from_one (fin true m e) p v h k = absurd (true≢false v.0)
from_one (fin false m e) p v h k =
    within_difference false (m * up e * 1) (1 * 1 * down e) (down e * 1) 7 16 (mul-pos (down_pos e) (lit< tt)) (lit< tt)
    (above (m * up e) (down e)
    (through (m * up e) (pattern_units p) 1449 (down e) (2 ^ 1074) 1024 (pow_pos 1074) (le_of_eq v.1) (le_trans (mul-le-mul_right 1024 (units_mono p (0x3ff6_a09c * 2 ^ 32) k)) (lit≤ tt))))
    (below (m * up e) (down e)
    (through 724 (pattern_units p) (m * up e) 1024 (2 ^ 1074) (down e) (pow_pos 1074) (le_trans (lit≤ tt) (mul-le-mul_right 1024 (units_mono (0x3fe6_a09c * 2 ^ 32) p h))) (le_of_eq (sym v.1))))
    exact_7/16
  where
    above : (X D : ℕ) → X * 1024 ≤ 1449 * D → X * 1 * 16 ≤ 1 * 1 * D * 16 + 7 * (D * 1)
    above X D h = omega arith

    below : (X D : ℕ) → 724 * D ≤ X * 1024 → 1 * 1 * D * 16 ≤ X * 1 * 16 + 7 * (D * 1)
    below X D h = omega arith

f_up : (p : ℕ) → 0x3fe6_a09c * 2 ^ 32 ≤ p → p ≤ 0x3ff6_a09c * 2 ^ 32 → Up (float p ⊖ one) 7 16
f_up p h k = record { pos = lit< tt; is = from_one (float p) p (bits_value p (omega arith)) h k }

-- ---- a pattern's logarithm

normal_up : (b base : ℕ) → b / 2 ^ 52 + 1 ≤ base + 1075 → base ≤ b / 2 ^ 52 + 1075 → Up (log_normal b base) 746 1
unfolding log_normal
normal_up b base h k =
    let m : ℕ = b / 2 ^ 32 % 2 ^ 20 in
    let j : ℕ = (m + 0x9_5f64) / 2 ^ 20 in
    let a : ℕ = b / 2 ^ 52 + j in
    let dk = dk_up a base (most b base h) (least b base k) in
    let f = f_up ((0x3ff - j) * 2 ^ 52 + b % 2 ^ 52) (low b) (high b) in
    pick (ltb ((m + 2) % 2 ^ 20) 3) (close_up a base dk _ f) (far_up a base dk _ m f)
  where
    most : (b base : ℕ) → b / 2 ^ 52 + 1 ≤ base + 1075 → b / 2 ^ 52 + (b / 2 ^ 32 % 2 ^ 20 + 0x9_5f64) / 2 ^ 20 ≤ base + 1075
    most b base h = omega arith

    least : (b base : ℕ) → base ≤ b / 2 ^ 52 + 1075 → base ≤ b / 2 ^ 52 + (b / 2 ^ 32 % 2 ^ 20 + 0x9_5f64) / 2 ^ 20 + 1075
    least b base h = omega arith

    low : (b : ℕ) → 0x3fe6_a09c * 2 ^ 32 ≤ (0x3ff - (b / 2 ^ 32 % 2 ^ 20 + 0x9_5f64) / 2 ^ 20) * 2 ^ 52 + b % 2 ^ 52
    low b = omega arith

    high : (b : ℕ) → (0x3ff - (b / 2 ^ 32 % 2 ^ 20 + 0x9_5f64) / 2 ^ 20) * 2 ^ 52 + b % 2 ^ 52 ≤ 0x3ff6_a09c * 2 ^ 32
    high b = omega arith

-- ---- a subnormal x: x * 2 ^ 54 is exact, and its exponent's field is 3 or more

two54_value : HasValue two54 false (2 ^ 54) 1
unfolding of_bits
two54_value = (refl, refl)

field_three : (b : ℕ) → 2 ^ 54 ≤ pattern_units b → 3 * 2 ^ 52 ≤ b
field_three b h = elim (le_or_lt (3 * 2 ^ 52) b) [
  | inl l ↦ l
  | inr l ↦ absurd (not-le_of_lt (lt_of_le_of_lt (units_mono b (3 * 2 ^ 52 - 1) (omega arith)) (lit< tt)) h)
]

scaled_value : (x : Float) (b : ℕ) → T (positive x) → b < 2 ^ 52 → HasValue x false b (2 ^ 1074) → HasValue (x ⊗ two54) false (b * 2 ^ 54) (2 ^ 1074)
unfolding of_bits
scaled_value x b p h v =
    subst (λ (z : Float). HasValue z false (b * 2 ^ 54) (2 ^ 1074)) (sym (mul_at binary64 x two54 b (2 ^ 1074) (2 ^ 54) 1 p tt (pow_pos 1074) (lit< tt) v two54_value))
    (round_exact binary64 false (b * 2 ^ 54) (2 ^ 1074) b 54 (pow_pos 1074) (omega arith) (lt_of_lt_of_le (shl_lt 52 54 h) (lit≤ tt)) refl)

low_up : (x : Float) → T (positive x) → Pattern x (pattern_of x) → pattern_of x < 2 ^ 52 → Up (log_normal (pattern_of (x ⊗ two54)) 1077) 746 1
low_up x t p h =
    let y : Float = x ⊗ two54 in
    let v = scaled_value x (pattern_of x) t h (subst (λ (w : ℕ). HasValue x false w (2 ^ 1074)) (subnormal_units (pattern_of x) h) p.value) in
    let q = pattern y (mul-fits binary64 x two54) (positive_of_value y (pattern_of x * 2 ^ 54) (2 ^ 1074) v (mul-pos p.some (lit< tt))) in
    let u : pattern_units (pattern_of y) ≡ pattern_of x * 2 ^ 54 = sym (units_of_lem y _ q.value) ∙ units_of_lem y _ v in
    normal_up (pattern_of y) 1077 (most (pattern_of y) q.below) (least (pattern_of y) (field_three (pattern_of y) (subst (λ (w : ℕ). 2 ^ 54 ≤ w) (sym u) (some (pattern_of x) p.some))))
  where
    some : (b : ℕ) → 0 < b → 2 ^ 54 ≤ b * 2 ^ 54
    some b h = omega arith

    most : (b : ℕ) → b < 0x7ff0_0000_0000_0000 → b / 2 ^ 52 + 1 ≤ 1077 + 1075
    most b h = omega arith

    least : (b : ℕ) → 3 * 2 ^ 52 ≤ b → 1077 ≤ b / 2 ^ 52 + 1075
    least b h = omega arith

-- ---- every number above zero

log_up : (x : Float) → T (fits binary64 x) → T (positive x) → Up (log_of x) 746 1
unfolding log_of
log_up x f p =
    let w = pattern x f p in
    let b : ℕ = pattern_of x in
    rw (ne_eqb (b % 2 ^ 63) 0 (some b w.below w.some), lt-leb (2 ^ 63) b (half b w.below), lt-leb 0x7ff0_0000_0000_0000 b w.below)
    (elim (le_or_lt (2 ^ 52) b) [
      | inl h ↦ rw (le-ltb b (2 ^ 52) h) (normal_up b 1023 (hi b w.below) (lo b))
      | inr h ↦ rw (lt-ltb b (2 ^ 52) h) (low_up x p w h)
    ])
  where
    some : (b : ℕ) → b < 0x7ff0_0000_0000_0000 → 0 < b → b % 2 ^ 63 ≡ 0 → ⊥
    some b h k e = omega arith

    half : (b : ℕ) → b < 0x7ff0_0000_0000_0000 → b < 2 ^ 63
    half b h = omega arith

    hi : (b : ℕ) → b < 0x7ff0_0000_0000_0000 → b / 2 ^ 52 + 1 ≤ 1023 + 1075
    hi b h = omega arith

    lo : (b : ℕ) → 1023 ≤ b / 2 ^ 52 + 1075
    lo b = omega arith

pub log_size : (x : Float) → T (fits binary64 x) → T (positive x) → Within (log_of x) 746 1
log_size x f p = (log_up x f p).is

pub log_finite : (x : Float) → T (fits binary64 x) → T (positive x) → T (finite (log_of x))
log_finite x f p = within_finite (log_of x) 746 1 (log_size x f p)
