-- The whole part of a number from 1/2 to 2048, from the fields of its pattern. Assumes nothing.
use mathlib.Core.Path.{◌≡◌, sym, ap, ◌∙◌}
use mathlib.Core.Bool.{true, false}
use Prim.Native.Nat.{ℕ, zero, suc, ◌+◌, ◌-◌, ◌*◌, ◌/◌, ◌%◌, ◌^◌, ◌≤◌, ◌<◌, min}
use native.Mathlib.Nat.{div-le_self, mul-div-mul_right}
use native.Mathlib.Omega.{arith}
use lib.Pow.{pow_pos, pow-add}
use lib.Dec.{T, lit<, lit≤}
use lib.Ieee.{Float, nan, inf, fin, binary64, up, down, fits, to_unsigned}
use lib.Ieee.Fits.{down_pos}
use lib.Ieee.Exact.{HasValue}
use lib.Ieee.Nearest.{div_same}
use lib.Ieee.Positive.{positive}
use Rattle.number.specs.Number.{pattern_of}
use Rattle.rounding.specs.Bounds.{Within, From}
use Rattle.rounding.proofs.Field.{is_positive, field_above, field_within}
use Rattle.rounding.proofs.Pattern.{units_at, pattern}

-- the digits, less those behind the point
abbrev pub whole_of : ℕ → ℕ
whole_of b = (2 ^ 52 + b % 2 ^ 52) / 2 ^ (1075 - b / 2 ^ 52)

fields_whole : (x t : ℕ) → 0 < x → x ≤ 1034 → units_at x t / 2 ^ 1074 ≡ (2 ^ 52 + t) / 2 ^ (1075 - x)
fields_whole zero t p h = absurd (omega arith)
fields_whole (suc k) t p h =
    ap (λ (z : ℕ). (2 ^ 52 + t) * 2 ^ k / z) (ap (λ (i : ℕ). 2 ^ i) (sums k h) ∙ pow-add 2 (1075 - suc k) k)
    ∙ mul-div-mul_right (2 ^ 52 + t) (2 ^ (1075 - suc k)) (pow_pos k)
  where
    sums : (k : ℕ) → suc k ≤ 1034 → 1074 ≡ 1075 - suc k + k
    sums k h = omega arith

-- its pattern, and its whole part
pub record Cut (v : Float) : Type 0 where
  pub low : 1021 < pattern_of v / 2 ^ 52
  pub high : pattern_of v / 2 ^ 52 ≤ 1034
  pub whole : whole_of (pattern_of v) ≡ to_unsigned 64 v

cut_small : (q : ℕ) → q < 2 ^ 53 → min q (2 ^ 64 - 1) ≡ q
cut_small q h = omega arith

whole_at : (v : Float) (x t : ℕ) → T (positive v) → HasValue v false (units_at x t) (2 ^ 1074) → t < 2 ^ 52 → 0 < x → x ≤ 1034 → (2 ^ 52 + t) / 2 ^ (1075 - x) ≡ to_unsigned 64 v
unfolding to_unsigned
whole_at nan x t p v l h k = absurd p
whole_at (inf s) x t p v l h k = absurd p
whole_at (fin true m e) x t p v l h k = absurd p
whole_at (fin false m e) x t p v l h k =
    let q : m * up e / down e ≡ (2 ^ 52 + t) / 2 ^ (1075 - x) = div_same (m * up e) (down e) (units_at x t) (2 ^ 1074) (down_pos e) (pow_pos 1074) v.1 ∙ fields_whole x t h k in
    sym (ap (λ (z : ℕ). min z (2 ^ 64 - 1)) q ∙ cut_small _ (few (2 ^ 52 + t) (2 ^ (1075 - x)) (more t l)))
  where
    more : (t : ℕ) → t < 2 ^ 52 → 2 ^ 52 + t < 2 ^ 53
    more t l = omega arith

    few : (a b : ℕ) → a < 2 ^ 53 → a / b < 2 ^ 53
    few a b h = omega (arith, div-le_self a b)

pub cut : (v : Float) → T (fits binary64 v) → From false v 1 2 → Within v 2239 2 → Cut v
cut v f h k =
    let p : T (positive v) = is_positive v 1 2 (lit< tt) h in
    let l = field_above v 1 2 1021 f (lit< tt) (lit< tt) h (lit≤ tt) in
    let u = field_within v 2239 2 1034 f p (lit< tt) k (lit< tt) in
    record { low = l; high = u; whole = whole_at v (pattern_of v / 2 ^ 52) (pattern_of v % 2 ^ 52) p (pattern v f p).value (rest (pattern_of v)) (some (pattern_of v / 2 ^ 52) l) u }
  where
    rest : (b : ℕ) → b % 2 ^ 52 < 2 ^ 52
    rest b = omega arith

    some : (x : ℕ) → 1021 < x → 0 < x
    some x h = omega arith
