-- Values of the root at the ends of its range and of what is no number above zero, computed from its definition. Assumes nothing.
use Rattle.std.proofs.Common.{T, [], ◌∷◌}
use lib.Ieee.{of_bits, to_bits, size}
use Rattle.number.proofs.Values.{agrees, ◌gives◌}
use Rattle.rounding.specs.Units.{in_units}
use Rattle.root.specs.Root.{root_of, root_pattern, whole_root, cut}

pub root_values : T (agrees root_of (
    0x0000_0000_0000_0001 gives 0x1E60_0000_0000_0000  -- the smallest number above zero, 2 ^ -1074, and the largest, 2 ^ 1024 - 2 ^ 971
    ∷ 0x7FEF_FFFF_FFFF_FFFF gives 0x5FEF_FFFF_FFFF_FFFF
    ∷ 0x0000_0000_0000_0000 gives 0x0000_0000_0000_0000  -- zeros keep their signs
    ∷ 0x8000_0000_0000_0000 gives 0x8000_0000_0000_0000
    ∷ 0xBFF0_0000_0000_0000 gives 0x7FF8_0000_0000_0000  -- a number below zero, infinities, NaN
    ∷ 0x7FF0_0000_0000_0000 gives 0x7FF0_0000_0000_0000
    ∷ 0xFFF0_0000_0000_0000 gives 0x7FF8_0000_0000_0000
    ∷ 0x7FF8_0000_0000_0000 gives 0x7FF8_0000_0000_0000
    ∷ []))
unfolding root_of root_pattern whole_root cut size in_units of_bits to_bits
root_values = tt
