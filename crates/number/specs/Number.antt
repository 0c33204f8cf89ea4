-- Numbers of binary64: the operations of document 01's steps, each rounded once (⊕ ⊖ ⊗ ⊘), bit patterns, tests, and what Rust has as
-- methods of f64: magnitude and max. That a number is finite is `finite` of lib.Ieee.Scale. After IEEE 754 as lib.Ieee has it, and
-- document 01, "The steps" and "Slips to shut out".
use Rattle.std.specs.Prelude.{ℕ, Bool, false, if◌then◌else◌, ◌&&◌, leb, ltb, eqb, pos}
use lib.Ieee.{Float, nan, inf, fin, binary64, add, sub, mul, div, lt, eq, is_nan, of_bits, to_bits, of_int}
use lib.Ieee.Scale.{finite}

infix 50 ◌<?◌ ◌≤?◌ ◌=?◌
infixl 65 ◌⊕◌ ◌⊖◌
infixl 70 ◌⊗◌ ◌⊘◌
-- comparisons of whole numbers; those of binary64 are `lt`, `le`, `eq` and `ne` of lib.Ieee, where a NaN is neither below nor equal to anything
abbrev pub ◌<?◌ : ℕ → ℕ → Bool
◌<?◌ a b = ltb a b

abbrev pub ◌≤?◌ : ℕ → ℕ → Bool
◌≤?◌ a b = leb a b

abbrev pub ◌=?◌ : ℕ → ℕ → Bool
◌=?◌ a b = eqb a b

abbrev pub ◌⊕◌ : Float → Float → Float
◌⊕◌ x y = add binary64 x y

abbrev pub ◌⊖◌ : Float → Float → Float
◌⊖◌ x y = sub binary64 x y

abbrev pub ◌⊗◌ : Float → Float → Float
◌⊗◌ x y = mul binary64 x y

abbrev pub ◌⊘◌ : Float → Float → Float
◌⊘◌ x y = div binary64 x y

-- the bit pattern of a number (one pattern for every NaN), and the number of a bit pattern
abbrev pub pattern_of : Float → ℕ
pattern_of x = to_bits binary64 x

abbrev pub float : ℕ → Float
float n = of_bits binary64 n

-- a whole number, rounded where it has more than 53 binary digits
abbrev pub of_whole : ℕ → Float
of_whole n = of_int binary64 (pos n)

abbrev pub zero⁺ : Float
zero⁺ = float 0

abbrev pub half : Float
half = float 0x3FE0_0000_0000_0000

abbrev pub one : Float
one = float 0x3FF0_0000_0000_0000

abbrev pub two : Float
two = float 0x4000_0000_0000_0000

-- finite and above zero
unfoldable pub usable : Float → Bool
usable x = finite x && lt zero⁺ x

-- the magnitude: the sign is cleared, a zero's too
unfoldable pub magnitude_of : Float → Float
magnitude_of nan = nan
magnitude_of (inf s) = inf false
magnitude_of (fin s m e) = fin false m e

-- the larger of two; of a NaN and another, the other; of two zeros their sum, which is +0 unless both are -0
unfoldable pub max_of : Float → Float → Float
max_of x y =
    if is_nan x then y else (if is_nan y then x else (if lt x y then y else (if lt y x then x else (if eq x zero⁺ then x ⊕ y else x))))
