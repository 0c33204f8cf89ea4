-- Values of the normal log density, computed from its definition. The bits are those that C and Python give for the same operations. Assumes nothing.
use mathlib.Core.List.{[], ◌∷◌}
use lib.Dec.{T}
use lib.Ieee.{of_bits, to_bits, add, sub, mul, neg}
use Rattle.number.proofs.Values.{agrees, ◌gives◌}
use Rattle.normal.specs.Normal.{lnpdf_of}

pub lnpdf_values : T (agrees lnpdf_of (
    0x0000_0000_0000_0000 gives 0xBFED_67F1_C864_BEB5  -- 0 and 1
    ∷ 0x3FF0_0000_0000_0000 gives 0xBFF6_B3F8_E432_5F5A
    ∷ 0x7FF0_0000_0000_0000 gives 0xFFF0_0000_0000_0000  -- infinities, NaN
    ∷ 0xFFF0_0000_0000_0000 gives 0xFFF0_0000_0000_0000
    ∷ 0x7FF8_0000_0000_0000 gives 0x7FF8_0000_0000_0000
    ∷ []))
unfolding lnpdf_of of_bits to_bits add sub mul neg
lnpdf_values = tt
