-- The definitions, computed on texts and numbers whose answers are known. Assumes nothing.
use mathlib.Core.Path.{◌≡◌, refl}
use mathlib.Core.Bool.{false}
use mathlib.Core.List.{[], ◌∷◌}
use lib.Ieee.{of_bits, round, size, units, odd, inf}
use Rattle.number.specs.Number.{float}
use Rattle.rounding.specs.Units.{in_units}
use Rattle.std.proofs.Common.{Ok, Err}
use Rattle.text_decimal_grammar.specs.Grammar.{digit_of, hex_of, nothing, moved, minus, minus_exponent, whole_digit, fraction_digit, exponent_digit, hex_digit, mark, after_sign, at_start, in_whole, after_zero, after_point, in_fraction, in_exponent, after_mark, in_word, in_hex, step_at, step}
use Rattle.text_decimal_read.specs.Text.{number_of, finish_at, scan, read_of}
use Rattle.text_decimal_write.specs.Decimals.{largest, tens, decimal_of, digits_text, exponent_text, decimal_text, units_text, text_of}

-- 9007199254740993
past_2_53 : read_of (57 ∷ 48 ∷ 48 ∷ 55 ∷ 49 ∷ 57 ∷ 57 ∷ 50 ∷ 53 ∷ 52 ∷ 55 ∷ 52 ∷ 48 ∷ 57 ∷ 57 ∷ 51 ∷ []) ≡ Ok (float 0x4340000000000000)
unfolding read_of scan nothing step step_at digit_of hex_of moved minus minus_exponent whole_digit fraction_digit exponent_digit hex_digit mark after_sign at_start in_whole after_zero after_point in_fraction in_exponent after_mark in_word in_hex finish_at number_of round size units odd of_bits
past_2_53 = refl

-- 2.2250738585072011e-308
smallest_normal : read_of (50 ∷ 46 ∷ 50 ∷ 50 ∷ 53 ∷ 48 ∷ 55 ∷ 51 ∷ 56 ∷ 53 ∷ 56 ∷ 53 ∷ 48 ∷ 55 ∷ 50 ∷ 48 ∷ 49 ∷ 49 ∷ 101 ∷ 45 ∷ 51 ∷ 48 ∷ 56 ∷ []) ≡ Ok (float 0xfffffffffffff)
unfolding read_of scan nothing step step_at digit_of hex_of moved minus minus_exponent whole_digit fraction_digit exponent_digit hex_digit mark after_sign at_start in_whole after_zero after_point in_fraction in_exponent after_mark in_word in_hex finish_at number_of round size units odd of_bits
smallest_normal = refl

-- 1.7976931348623158e308
largest_number : read_of (49 ∷ 46 ∷ 55 ∷ 57 ∷ 55 ∷ 54 ∷ 57 ∷ 51 ∷ 49 ∷ 51 ∷ 52 ∷ 56 ∷ 54 ∷ 50 ∷ 51 ∷ 49 ∷ 53 ∷ 56 ∷ 101 ∷ 51 ∷ 48 ∷ 56 ∷ []) ≡ Ok (float 0x7fefffffffffffff)
unfolding read_of scan nothing step step_at digit_of hex_of moved minus minus_exponent whole_digit fraction_digit exponent_digit hex_digit mark after_sign at_start in_whole after_zero after_point in_fraction in_exponent after_mark in_word in_hex finish_at number_of round size units odd of_bits
largest_number = refl

-- 5e-324
smallest : read_of (53 ∷ 101 ∷ 45 ∷ 51 ∷ 50 ∷ 52 ∷ []) ≡ Ok (float 0x1)
unfolding read_of scan nothing step step_at digit_of hex_of moved minus minus_exponent whole_digit fraction_digit exponent_digit hex_digit mark after_sign at_start in_whole after_zero after_point in_fraction in_exponent after_mark in_word in_hex finish_at number_of round size units odd of_bits
smallest = refl

-- 2.4703282292062327e-324
half_of_it : read_of (50 ∷ 46 ∷ 52 ∷ 55 ∷ 48 ∷ 51 ∷ 50 ∷ 56 ∷ 50 ∷ 50 ∷ 57 ∷ 50 ∷ 48 ∷ 54 ∷ 50 ∷ 51 ∷ 50 ∷ 55 ∷ 101 ∷ 45 ∷ 51 ∷ 50 ∷ 52 ∷ []) ≡ Ok (float 0x0)
unfolding read_of scan nothing step step_at digit_of hex_of moved minus minus_exponent whole_digit fraction_digit exponent_digit hex_digit mark after_sign at_start in_whole after_zero after_point in_fraction in_exponent after_mark in_word in_hex finish_at number_of round size units odd of_bits
half_of_it = refl

-- 2.4703282292062328e-324
above_half : read_of (50 ∷ 46 ∷ 52 ∷ 55 ∷ 48 ∷ 51 ∷ 50 ∷ 56 ∷ 50 ∷ 50 ∷ 57 ∷ 50 ∷ 48 ∷ 54 ∷ 50 ∷ 51 ∷ 50 ∷ 56 ∷ 101 ∷ 45 ∷ 51 ∷ 50 ∷ 52 ∷ []) ≡ Ok (float 0x1)
unfolding read_of scan nothing step step_at digit_of hex_of moved minus minus_exponent whole_digit fraction_digit exponent_digit hex_digit mark after_sign at_start in_whole after_zero after_point in_fraction in_exponent after_mark in_word in_hex finish_at number_of round size units odd of_bits
above_half = refl

-- -0e0
minus_zero : read_of (45 ∷ 48 ∷ 101 ∷ 48 ∷ []) ≡ Ok (float 0x8000000000000000)
unfolding read_of scan nothing step step_at digit_of hex_of moved minus minus_exponent whole_digit fraction_digit exponent_digit hex_digit mark after_sign at_start in_whole after_zero after_point in_fraction in_exponent after_mark in_word in_hex finish_at number_of round size units odd of_bits
minus_zero = refl

-- .1
tenth : read_of (46 ∷ 49 ∷ []) ≡ Ok (float 0x3fb999999999999a)
unfolding read_of scan nothing step step_at digit_of hex_of moved minus minus_exponent whole_digit fraction_digit exponent_digit hex_digit mark after_sign at_start in_whole after_zero after_point in_fraction in_exponent after_mark in_word in_hex finish_at number_of round size units odd of_bits
tenth = refl

-- 0x3fF0000000000001
pattern : read_of (48 ∷ 120 ∷ 51 ∷ 102 ∷ 70 ∷ 48 ∷ 48 ∷ 48 ∷ 48 ∷ 48 ∷ 48 ∷ 48 ∷ 48 ∷ 48 ∷ 48 ∷ 48 ∷ 48 ∷ 49 ∷ []) ≡ Ok (float 0x3ff0000000000001)
unfolding read_of scan nothing step step_at digit_of hex_of moved minus minus_exponent whole_digit fraction_digit exponent_digit hex_digit mark after_sign at_start in_whole after_zero after_point in_fraction in_exponent after_mark in_word in_hex finish_at number_of round size units odd of_bits
pattern = refl

-- 1.8e308
too_large : read_of (49 ∷ 46 ∷ 56 ∷ 101 ∷ 51 ∷ 48 ∷ 56 ∷ []) ≡ Ok (inf false)
unfolding read_of scan nothing step step_at digit_of hex_of moved minus minus_exponent whole_digit fraction_digit exponent_digit hex_digit mark after_sign at_start in_whole after_zero after_point in_fraction in_exponent after_mark in_word in_hex finish_at number_of round size units odd of_bits
too_large = refl

-- -
lone_sign : read_of (45 ∷ []) ≡ Err 1
unfolding read_of scan nothing step step_at digit_of hex_of moved minus minus_exponent whole_digit fraction_digit exponent_digit hex_digit mark after_sign at_start in_whole after_zero after_point in_fraction in_exponent after_mark in_word in_hex finish_at number_of round size units odd of_bits
lone_sign = refl

-- .
lone_point : read_of (46 ∷ []) ≡ Err 1
unfolding read_of scan nothing step step_at digit_of hex_of moved minus minus_exponent whole_digit fraction_digit exponent_digit hex_digit mark after_sign at_start in_whole after_zero after_point in_fraction in_exponent after_mark in_word in_hex finish_at number_of round size units odd of_bits
lone_point = refl

-- 1.2.3
two_points : read_of (49 ∷ 46 ∷ 50 ∷ 46 ∷ 51 ∷ []) ≡ Err 3
unfolding read_of scan nothing step step_at digit_of hex_of moved minus minus_exponent whole_digit fraction_digit exponent_digit hex_digit mark after_sign at_start in_whole after_zero after_point in_fraction in_exponent after_mark in_word in_hex finish_at number_of round size units odd of_bits
two_points = refl

-- 1e401
past_400 : read_of (49 ∷ 101 ∷ 52 ∷ 48 ∷ 49 ∷ []) ≡ Err 4
unfolding read_of scan nothing step step_at digit_of hex_of moved minus minus_exponent whole_digit fraction_digit exponent_digit hex_digit mark after_sign at_start in_whole after_zero after_point in_fraction in_exponent after_mark in_word in_hex finish_at number_of round size units odd of_bits
past_400 = refl

-- 12345678901234567891
twenty_digits : read_of (49 ∷ 50 ∷ 51 ∷ 52 ∷ 53 ∷ 54 ∷ 55 ∷ 56 ∷ 57 ∷ 48 ∷ 49 ∷ 50 ∷ 51 ∷ 52 ∷ 53 ∷ 54 ∷ 55 ∷ 56 ∷ 57 ∷ 49 ∷ []) ≡ Err 19
unfolding read_of scan nothing step step_at digit_of hex_of moved minus minus_exponent whole_digit fraction_digit exponent_digit hex_digit mark after_sign at_start in_whole after_zero after_point in_fraction in_exponent after_mark in_word in_hex finish_at number_of round size units odd of_bits
twenty_digits = refl

-- 1.0000000000000001e-001
write_tenth : text_of (float 0x3fb999999999999a) ≡ 49 ∷ 46 ∷ 48 ∷ 48 ∷ 48 ∷ 48 ∷ 48 ∷ 48 ∷ 48 ∷ 48 ∷ 48 ∷ 48 ∷ 48 ∷ 48 ∷ 48 ∷ 48 ∷ 48 ∷ 49 ∷ 101 ∷ 45 ∷ 48 ∷ 48 ∷ 49 ∷ []
unfolding text_of units_text decimal_text decimal_of tens largest digits_text exponent_text in_units of_bits size
write_tenth = refl

-- -1.7976931348623157e+308
write_largest : text_of (float 0xffefffffffffffff) ≡ 45 ∷ 49 ∷ 46 ∷ 55 ∷ 57 ∷ 55 ∷ 54 ∷ 57 ∷ 51 ∷ 49 ∷ 51 ∷ 52 ∷ 56 ∷ 54 ∷ 50 ∷ 51 ∷ 49 ∷ 53 ∷ 55 ∷ 101 ∷ 43 ∷ 51 ∷ 48 ∷ 56 ∷ []
unfolding text_of units_text decimal_text decimal_of tens largest digits_text exponent_text in_units of_bits size
write_largest = refl

-- 4.9406564584124654e-324
write_smallest : text_of (float 0x1) ≡ 52 ∷ 46 ∷ 57 ∷ 52 ∷ 48 ∷ 54 ∷ 53 ∷ 54 ∷ 52 ∷ 53 ∷ 56 ∷ 52 ∷ 49 ∷ 50 ∷ 52 ∷ 54 ∷ 53 ∷ 52 ∷ 101 ∷ 45 ∷ 51 ∷ 50 ∷ 52 ∷ []
unfolding text_of units_text decimal_text decimal_of tens largest digits_text exponent_text in_units of_bits size
write_smallest = refl

-- 9.0071992547409920e+015
write_2_53 : text_of (float 0x4340000000000000) ≡ 57 ∷ 46 ∷ 48 ∷ 48 ∷ 55 ∷ 49 ∷ 57 ∷ 57 ∷ 50 ∷ 53 ∷ 52 ∷ 55 ∷ 52 ∷ 48 ∷ 57 ∷ 57 ∷ 50 ∷ 48 ∷ 101 ∷ 43 ∷ 48 ∷ 49 ∷ 53 ∷ []
unfolding text_of units_text decimal_text decimal_of tens largest digits_text exponent_text in_units of_bits size
write_2_53 = refl
