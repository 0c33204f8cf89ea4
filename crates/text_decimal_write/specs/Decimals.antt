-- A number as text with 17 significant digits: the decimal nearest to it. Its form is `d.dddddddddddddddde+ddd`: a `-` before it where the
-- sign is set, a zero's too; one digit before the point and 16 after it; the exponent's sign, always, and three digits of it. And `inf`,
-- `-inf`, `nan`.
-- The nearest is by the exact distance. A tie, where a number lies halfway between two decimals of 17 digits, goes to the even last digit.
use Rattle.std.specs.Prelude.{ℕ, zero, suc, ◌+◌, ◌-◌, ◌*◌, ◌/◌, ◌%◌, ◌^◌, Bool, true, false, List, [], ◌∷◌, ◌++◌, length, replicate, Float, if◌then◌else◌}
use Rattle.std.specs.Float.{nan, inf, fin, binary64}
use Rattle.std.specs.Float.Ieee.Nearest.{closest}
use Rattle.number.specs.Number.{◌<?◌, ◌≤?◌, ◌=?◌}
use Rattle.rounding.specs.Units.{in_units}
use Rattle.text_decimal_write.specs.declared.Decimal.{Decimal}
use Rattle.text_decimal_write.specs.declared.Written.{Written}

-- ---- the decimal, of a number of u units of 2 ^ -1074, u above zero

-- u units over 10 ^ (t - 340) is the fraction over u t / under t
abbrev pub over : ℕ → ℕ → ℕ
over u t = u * 10 ^ (340 - t)

abbrev pub under : ℕ → ℕ
under t = 10 ^ (t - 340) * 2 ^ 1074

-- it is at least 10 ^ 16: there are 17 digits before the point
abbrev pub reaches : ℕ → ℕ → Bool
reaches u t = 10 ^ 16 * under t ≤? over u t

-- the largest t up to n for which that is so; the number's first digit has the weight 10 ^ (t - 324)
unfoldable pub largest : ℕ → ℕ → ℕ
largest u zero = 0
largest u (suc n) = if reaches u (suc n) then suc n else largest u n

unfoldable pub tens : ℕ → ℕ
unfolding largest
tens u = largest u 632

-- digits * 10 ^ (tens - 340); 17 digits that are rounded up to 10 ^ 17 are 10 ^ 16 with one ten more
abbrev pub settled : ℕ → ℕ → Decimal
settled d t = if d =? 10 ^ 17 then record { digits = 10 ^ 16; tens = t + 1 } else record { digits = d; tens = t }

unfoldable pub decimal_of : ℕ → Decimal
unfolding tens
decimal_of u = settled (closest (over u (tens u)) (under (tens u))) (tens u)

-- that of any number of units: zero has no first digit, and its weight is taken to be 1
unfoldable pub units_decimal : ℕ → Decimal
unfolding decimal_of
units_decimal u = if u =? 0 then record { digits = 0; tens = 324 } else decimal_of u

-- ---- its text

-- n digits of v, the highest first; `0` is 48
unfoldable pub digits_text : ℕ → ℕ → List ℕ
digits_text zero v = []
digits_text (suc n) v = (48 + v / 10 ^ n % 10) ∷ digits_text n v

-- `e` is 101, `-` 45, `+` 43, `.` 46
unfoldable pub exponent_text : ℕ → List ℕ
unfolding digits_text
exponent_text t = if t <? 324 then 101 ∷ 45 ∷ digits_text 3 (324 - t) else 101 ∷ 43 ∷ digits_text 3 (t - 324)

unfoldable pub decimal_text : Decimal → List ℕ
unfolding digits_text exponent_text
decimal_text d = digits_text 1 (d.digits / 10 ^ 16) ++ 46 ∷ digits_text 16 (d.digits % 10 ^ 16) ++ exponent_text d.tens

unfoldable pub units_text : ℕ → List ℕ
unfolding decimal_text units_decimal
units_text u = decimal_text (units_decimal u)

abbrev pub sign_text : Bool → List ℕ
sign_text true = 45 ∷ []
sign_text false = []

unfoldable pub text_of : Float → List ℕ
unfolding units_text
text_of nan = 110 ∷ 97 ∷ 110 ∷ []
text_of (inf s) = sign_text s ++ 105 ∷ 110 ∷ 102 ∷ []
text_of (fin s m e) = sign_text s ++ units_text (in_units binary64 (fin s m e))

-- ---- 32 bytes, the first of which are the text

unfoldable pub written : List ℕ → Written
written t = record { bytes = t ++ replicate (32 - length t) 0; length = length t }

unfoldable pub written_of : Float → Written
unfolding written text_of
written_of x = written (text_of x)
