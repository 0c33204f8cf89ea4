-- A number for people to read: at most n significant digits, n from 1 to 17, laid out as C's printf lays out `%.*g`.
-- Two roundings, each with a tie to the even digit: to the decimal of 17 digits nearest to the number (crates/text_decimal_write), and that
-- one to n digits. C rounds once. The two differ only where what lies behind the n-th of the 17 digits is 5000.. and the number itself does
-- not lie exactly there.
use Rattle.std.specs.Prelude.{ℕ, zero, suc, ◌+◌, ◌-◌, ◌/◌, ◌%◌, ◌^◌, List, [], ◌∷◌, ◌++◌, Float, if◌then◌else◌}
use Rattle.std.specs.Float.{nan, inf, fin, binary64}
use Rattle.std.specs.Float.Ieee.Nearest.{closest}
use Rattle.number.specs.Number.{◌<?◌, ◌=?◌}
use Rattle.rounding.specs.Units.{in_units}
use Rattle.text_decimal_write.specs.declared.Decimal.{Decimal}
use Rattle.text_decimal_write.specs.declared.Written.{Written}
use Rattle.text_decimal_write.specs.Decimals.{units_decimal, digits_text, sign_text, written}

-- ---- the digits. The first digit of a decimal, of 17 digits or of n, has the weight 10 ^ (tens - 324); C's X is tens - 324, its P is n.

-- n digits that are rounded up to 10 ^ n are 10 ^ (n - 1) with one ten more
unfoldable pub carried : ℕ → ℕ → ℕ → Decimal
carried n q t = if q =? 10 ^ n then record { digits = 10 ^ (n - 1); tens = t + 1 } else record { digits = q; tens = t }

-- the 17 digits of d, rounded to n
unfoldable pub rounded_to : ℕ → Decimal → Decimal
unfolding carried
rounded_to n d = carried n (closest d.digits (10 ^ (17 - n))) d.tens

-- ---- the layout

-- the point, which is 46, and the last k digits of v: zeros at the end are left away, and the point where nothing follows it
unfoldable pub fraction_text : ℕ → ℕ → List ℕ
unfolding digits_text
fraction_text zero v = []
fraction_text (suc k) v = if v % 10 =? 0 then fraction_text k (v / 10) else 46 ∷ digits_text (suc k) v

-- w digits before the point, and the last k digits of v behind it
unfoldable pub pointed_text : ℕ → ℕ → ℕ → List ℕ
unfolding digits_text fraction_text
pointed_text w k v = digits_text w (v / 10 ^ k) ++ fraction_text k v

-- at least two digits of an exponent below 1000
unfoldable pub two_or_three : ℕ → List ℕ
unfolding digits_text
two_or_three x = if x <? 100 then digits_text 2 x else digits_text 3 x

-- `e` is 101, `-` 45, `+` 43
unfoldable pub exponent_text : ℕ → List ℕ
unfolding two_or_three
exponent_text t = if t <? 324 then 101 ∷ 45 ∷ two_or_three (324 - t) else 101 ∷ 43 ∷ two_or_three (t - 324)

-- C's style e with P - 1 digits behind the point
unfoldable pub scientific : ℕ → Decimal → List ℕ
unfolding pointed_text exponent_text
scientific n d = pointed_text 1 (n - 1) d.digits ++ exponent_text d.tens

-- how many digits stand before the point: X + 1, and one where X is below zero
unfoldable pub whole_digits : ℕ → ℕ
whole_digits t = if t <? 324 then 1 else t - 323

-- C's style f with P - 1 - X digits behind the point
unfoldable pub fixed : ℕ → Decimal → List ℕ
unfolding pointed_text whole_digits
fixed n d = pointed_text (whole_digits d.tens) (n + 323 - d.tens) d.digits

-- style f where X >= -4 and P > X, else style e
unfoldable pub laid_out : ℕ → Decimal → List ℕ
unfolding scientific fixed
laid_out n d = if d.tens <? 320 then scientific n d else (if d.tens <? n + 324 then fixed n d else scientific n d)

-- ---- the text of a number

-- of u units of 2 ^ -1074
unfoldable pub short_units : ℕ → ℕ → List ℕ
unfolding rounded_to laid_out
short_units n u = laid_out n (rounded_to n (units_decimal u))

unfoldable pub short_text : ℕ → Float → List ℕ
unfolding short_units
short_text n nan = 110 ∷ 97 ∷ 110 ∷ []
short_text n (inf s) = sign_text s ++ 105 ∷ 110 ∷ 102 ∷ []
short_text n (fin s m e) = sign_text s ++ short_units n (in_units binary64 (fin s m e))

-- n outside 1 to 17 counts as the nearest of the two
unfoldable pub allowed : ℕ → ℕ
allowed n = if n <? 1 then 1 else (if 17 <? n then 17 else n)

unfoldable pub short_of : Float → ℕ → Written
unfolding allowed short_text
short_of x n = written (short_text (allowed n) x)
