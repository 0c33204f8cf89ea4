-- What the functions of this crate hand to each other, and to crates/text_decimal_short.
use Rattle.std.specs.Prelude.{ℕ, ◌+◌, ◌-◌, ◌*◌, ◌/◌, ◌%◌, ◌^◌, List, [], ◌∷◌, ◌++◌, Float, Option, Some, None, if◌then◌else◌}
use Rattle.std.specs.Float.{nan, inf, fin, binary64}
use Rattle.number.specs.Number.{◌<?◌}
use Rattle.rounding.specs.Units.{in_units}
use Rattle.text_decimal_write.specs.declared.Decimal.{Decimal}
use Rattle.text_decimal_write.specs.Decimals.{digits_text, sign_text, units_decimal}

-- of a number of z binary digits, in units: its tens, or one less
abbrev pub guess_of : ℕ → ℕ
guess_of z = (z * 30103 + 39000) / 100000

-- the units of the magnitude's pattern b
unfoldable pub units_of : ℕ → ℕ
units_of b = if b <? 2 ^ 52 then b else (2 ^ 52 + b % 2 ^ 52) * 2 ^ (b / 2 ^ 52 - 1)

-- the exponent with n digits; `e` is 101, `-` 45, `+` 43
unfoldable pub exponent_digits : ℕ → ℕ → List ℕ
unfolding digits_text
exponent_digits n t = if t <? 324 then 101 ∷ 45 ∷ digits_text n (324 - t) else 101 ∷ 43 ∷ digits_text n (t - 324)

-- what a number's text begins with: `nan`, or the sign, and `inf`
unfoldable pub opening : Float → List ℕ
opening nan = 110 ∷ 97 ∷ 110 ∷ []
opening (inf s) = sign_text s ++ 105 ∷ 110 ∷ 102 ∷ []
opening (fin s m e) = sign_text s

-- the decimal that comes next, where there is one
unfoldable pub finite_decimal : Float → Option Decimal
unfolding units_decimal
finite_decimal nan = None
finite_decimal (inf s) = None
finite_decimal (fin s m e) = Some (units_decimal (in_units binary64 (fin s m e)))

-- its text, by a layout
abbrev pub laid : (Decimal → List ℕ) → Option Decimal → List ℕ
laid text (Some d) = text d
laid text None = []
