-- The logarithm of the standard normal density: (-0.5·z)·z - c, c the binary64 nearest to 0.91893853320467274178, which is ln (2π) / 2.
-- After document 01, "The steps". Each operation rounds once.
use Rattle.std.specs.Prelude.{Float}
use Rattle.number.specs.Number.{◌⊖◌, ◌⊗◌, float}

-- -0.5
abbrev pub minus_half : Float
minus_half = float 0xBFE0_0000_0000_0000

abbrev pub half_ln_two_pi : Float
half_ln_two_pi = float 0x3FED_67F1_C864_BEB5

unfoldable pub lnpdf_of : Float → Float
lnpdf_of z = minus_half ⊗ z ⊗ z ⊖ half_ln_two_pi
