-- The root of a binary64, to the nearest binary64: `IsRoot x r` says that r is it, and `root_of x` works it out.
-- After IEEE 754-2019, section 5.4.1, squareRoot, and document 01, "Root: the nearest binary64, stated by comparing whole-number squares".
use Rattle.std.specs.Prelude.{◌≡◌, ℕ, zero, suc, ◌+◌, ◌-◌, ◌*◌, ◌/◌, ◌^◌, ◌<◌, true, false, T, Float, if◌then◌else◌}
use Rattle.std.specs.Float.{nan, inf, fin, binary64}
use Rattle.std.specs.Float.Ieee.{fits, size}
use Rattle.std.specs.Float.Ieee.Positive.{positive}
use Rattle.number.specs.Number.{◌≤?◌, float}
use Rattle.rounding.specs.Units.{in_units}

abbrev pub square : ℕ → ℕ
square a = a * a

-- in units of 2 ^ -1074: the size of x, and the square of the size of x's root, which is x * 2 ^ 1074 * 2 ^ 1074
abbrev pub units_of : Float → ℕ
units_of x = in_units binary64 x

abbrev pub root_square : Float → ℕ
root_square x = units_of x * 2 ^ 1074

-- ---- what a root is

-- For a finite x above zero: r is above zero, and x's root lies on r's side of the middle between r and any other number y above zero.
-- ((y + r) / 2) ^ 2 is below x for each y below r, and above x for each y above r. Both are strict: there is no tie.
pub record NearestRoot (x r : Float) : Type 0 where
  pub above_zero : T (positive r)
  pub below : (y : Float) → T (fits binary64 y) → T (positive y) → units_of y < units_of r → square (units_of y + units_of r) < 4 * root_square x
  pub above : (y : Float) → T (fits binary64 y) → T (positive y) → units_of r < units_of y → 4 * root_square x < square (units_of y + units_of r)

-- r is the root of x. A zero is its own root, with its sign; a number below zero has none.
unfoldable pub IsRoot : Float → Float → Type 0
IsRoot nan r = r ≡ nan
IsRoot (inf true) r = r ≡ nan
IsRoot (inf false) r = r ≡ inf false
IsRoot (fin s zero e) r = r ≡ fin s zero e
IsRoot (fin true (suc m) e) r = r ≡ nan
IsRoot (fin false (suc m) e) r = NearestRoot (fin false (suc m) e) r

-- ---- the same, worked out

-- from q, the root of n / 4 cut to a whole number, that of n: one more binary digit
abbrev pub digit : ℕ → ℕ → ℕ
digit n q = if square (q * 2 + 1) ≤? n then q * 2 + 1 else q * 2

-- the root of an n below 4 ^ k, cut to a whole number: a binary digit of it for two of n
unfoldable pub cut : ℕ → ℕ → ℕ
cut zero n = 0
cut (suc k) n = digit n (cut k (n / 4))

-- q or q + 1, whichever is nearer to the root of n; (q + 1/2) ^ 2 is q * q + q + 1/4
abbrev pub rounded : ℕ → ℕ → ℕ
rounded n q = if n ≤? square q + q then q else q + 1

-- the whole number nearest to the root of an n below 4 ^ 53
unfoldable pub whole_root : ℕ → ℕ
unfolding cut
whole_root n = rounded n (cut 53 n)

-- The root of n, to the nearest of 53 digits: the pattern of that many units. k digits of the root are dropped, and two of n for each, so that n has
-- 105 or 106 left and the root, q, has 53. q * 2 ^ k units have the exponent's field k + 1, and below it the digits of q after the first.
abbrev pub dropped : ℕ → ℕ
dropped n = (size n - 105) / 2

unfoldable pub root_pattern : ℕ → ℕ
unfolding whole_root
root_pattern n = dropped n * 2 ^ 52 + whole_root (n / 4 ^ dropped n)

unfoldable pub root_of : Float → Float
unfolding root_pattern
root_of nan = nan
root_of (inf true) = nan
root_of (inf false) = inf false
root_of (fin s zero e) = fin s zero e
root_of (fin true (suc m) e) = nan
root_of (fin false (suc m) e) = float (root_pattern (root_square (fin false (suc m) e)))
