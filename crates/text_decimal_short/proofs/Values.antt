-- The definition, computed on numbers of which C's printf gave the text. Assumes nothing.
use mathlib.Core.Path.{◌≡◌, refl}
use mathlib.Core.List.{[], ◌∷◌}
use lib.Ieee.{of_bits}
use Rattle.number.specs.Number.{float}
use Rattle.rounding.specs.Units.{in_units}
use Rattle.text_decimal_write.specs.Decimals.{largest, tens, decimal_of, units_decimal, digits_text}
use Rattle.text_decimal_short.specs.Short.{carried, rounded_to, fraction_text, pointed_text, two_or_three, exponent_text, scientific, whole_digits, fixed, laid_out, short_units, short_text}

-- 0.99998 with 4 digits is `1`
nines_up : short_text 4 (float 0x3fefffd60e94ee39) ≡ 49 ∷ []
unfolding carried rounded_to fraction_text pointed_text two_or_three exponent_text scientific whole_digits fixed laid_out short_units short_text largest tens decimal_of units_decimal digits_text in_units of_bits
nines_up = refl

-- 0.999949 with 4 digits is `0.9999`
nines_stay : short_text 4 (float 0x3fefff950b955f78) ≡ 48 ∷ 46 ∷ 57 ∷ 57 ∷ 57 ∷ 57 ∷ []
unfolding carried rounded_to fraction_text pointed_text two_or_three exponent_text scientific whole_digits fixed laid_out short_units short_text largest tens decimal_of units_decimal digits_text in_units of_bits
nines_stay = refl

-- 150 with 3 digits is `150`
no_point : short_text 3 (float 0x4062c00000000000) ≡ 49 ∷ 53 ∷ 48 ∷ []
unfolding carried rounded_to fraction_text pointed_text two_or_three exponent_text scientific whole_digits fixed laid_out short_units short_text largest tens decimal_of units_decimal digits_text in_units of_bits
no_point = refl

-- 1234.5 with 3 digits is `1.23e+03`
exponent_up : short_text 3 (float 0x40934a0000000000) ≡ 49 ∷ 46 ∷ 50 ∷ 51 ∷ 101 ∷ 43 ∷ 48 ∷ 51 ∷ []
unfolding carried rounded_to fraction_text pointed_text two_or_three exponent_text scientific whole_digits fixed laid_out short_units short_text largest tens decimal_of units_decimal digits_text in_units of_bits
exponent_up = refl

-- 1e-5 with 3 digits is `1e-05`
exponent_down : short_text 3 (float 0x3ee4f8b588e368f1) ≡ 49 ∷ 101 ∷ 45 ∷ 48 ∷ 53 ∷ []
unfolding carried rounded_to fraction_text pointed_text two_or_three exponent_text scientific whole_digits fixed laid_out short_units short_text largest tens decimal_of units_decimal digits_text in_units of_bits
exponent_down = refl

-- 0.0001 with 3 digits is `0.0001`
fixed_down : short_text 3 (float 0x3f1a36e2eb1c432d) ≡ 48 ∷ 46 ∷ 48 ∷ 48 ∷ 48 ∷ 49 ∷ []
unfolding carried rounded_to fraction_text pointed_text two_or_three exponent_text scientific whole_digits fixed laid_out short_units short_text largest tens decimal_of units_decimal digits_text in_units of_bits
fixed_down = refl

-- 2.5 with 1 digits is `2`
tie_even : short_text 1 (float 0x4004000000000000) ≡ 50 ∷ []
unfolding carried rounded_to fraction_text pointed_text two_or_three exponent_text scientific whole_digits fixed laid_out short_units short_text largest tens decimal_of units_decimal digits_text in_units of_bits
tie_even = refl

-- 3.5 with 1 digits is `4`
tie_odd : short_text 1 (float 0x400c000000000000) ≡ 52 ∷ []
unfolding carried rounded_to fraction_text pointed_text two_or_three exponent_text scientific whole_digits fixed laid_out short_units short_text largest tens decimal_of units_decimal digits_text in_units of_bits
tie_odd = refl

-- -0.0 with 5 digits is `-0`
minus_zero : short_text 5 (float 0x8000000000000000) ≡ 45 ∷ 48 ∷ []
unfolding carried rounded_to fraction_text pointed_text two_or_three exponent_text scientific whole_digits fixed laid_out short_units short_text largest tens decimal_of units_decimal digits_text in_units of_bits
minus_zero = refl

-- 999.7 with 3 digits is `1e+03`
carried_into_exponent : short_text 3 (float 0x408f3d999999999a) ≡ 49 ∷ 101 ∷ 43 ∷ 48 ∷ 51 ∷ []
unfolding carried rounded_to fraction_text pointed_text two_or_three exponent_text scientific whole_digits fixed laid_out short_units short_text largest tens decimal_of units_decimal digits_text in_units of_bits
carried_into_exponent = refl

-- 0.1 with 17 digits is `0.10000000000000001`
all_digits : short_text 17 (float 0x3fb999999999999a) ≡ 48 ∷ 46 ∷ 49 ∷ 48 ∷ 48 ∷ 48 ∷ 48 ∷ 48 ∷ 48 ∷ 48 ∷ 48 ∷ 48 ∷ 48 ∷ 48 ∷ 48 ∷ 48 ∷ 48 ∷ 48 ∷ 49 ∷ []
unfolding carried rounded_to fraction_text pointed_text two_or_three exponent_text scientific whole_digits fixed laid_out short_units short_text largest tens decimal_of units_decimal digits_text in_units of_bits
all_digits = refl

-- 5e-324 with 3 digits is `4.94e-324`
smallest : short_text 3 (float 0x0000000000000001) ≡ 52 ∷ 46 ∷ 57 ∷ 52 ∷ 101 ∷ 45 ∷ 51 ∷ 50 ∷ 52 ∷ []
unfolding carried rounded_to fraction_text pointed_text two_or_three exponent_text scientific whole_digits fixed laid_out short_units short_text largest tens decimal_of units_decimal digits_text in_units of_bits
smallest = refl

-- 1.7976931348623157e308 with 17 digits is `1.7976931348623157e+308`
largest_number : short_text 17 (float 0x7fefffffffffffff) ≡ 49 ∷ 46 ∷ 55 ∷ 57 ∷ 55 ∷ 54 ∷ 57 ∷ 51 ∷ 49 ∷ 51 ∷ 52 ∷ 56 ∷ 54 ∷ 50 ∷ 51 ∷ 49 ∷ 53 ∷ 55 ∷ 101 ∷ 43 ∷ 51 ∷ 48 ∷ 56 ∷ []
unfolding carried rounded_to fraction_text pointed_text two_or_three exponent_text scientific whole_digits fixed laid_out short_units short_text largest tens decimal_of units_decimal digits_text in_units of_bits
largest_number = refl

-- -0.000123456 with 4 digits is `-0.0001235`
tenth : short_text 4 (float 0xbf202e7ef70994dd) ≡ 45 ∷ 48 ∷ 46 ∷ 48 ∷ 48 ∷ 48 ∷ 49 ∷ 50 ∷ 51 ∷ 53 ∷ []
unfolding carried rounded_to fraction_text pointed_text two_or_three exponent_text scientific whole_digits fixed laid_out short_units short_text largest tens decimal_of units_decimal digits_text in_units of_bits
tenth = refl

-- 100 with 2 digits is `1e+02`
zeros_in_front : short_text 2 (float 0x4059000000000000) ≡ 49 ∷ 101 ∷ 43 ∷ 48 ∷ 50 ∷ []
unfolding carried rounded_to fraction_text pointed_text two_or_three exponent_text scientific whole_digits fixed laid_out short_units short_text largest tens decimal_of units_decimal digits_text in_units of_bits
zeros_in_front = refl
