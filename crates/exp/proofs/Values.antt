-- Values of the exponential, computed from its definition. The bits are those that Java's StrictMath.exp gives, which is fdlibm 5.3. Assumes nothing.
use mathlib.Core.List.{[], ◌∷◌}
use lib.Dec.{T}
use lib.Ieee.{of_bits, to_bits, add, sub, mul, div, neg, lt, to_unsigned, of_int}
use Rattle.number.proofs.Values.{agrees, ◌gives◌}
use Rattle.exp.specs.Exp.{exp_of, exp_poly, exp_zero, exp_part, exp_scale, signed, exp_whole, exp_far, exp_near, exp_reduce, exp_large}

pub exp_values : T (agrees exp_of (
    0x0000_0000_0000_0000 gives 0x3FF0_0000_0000_0000  -- zeros of both signs
    ∷ 0x8000_0000_0000_0000 gives 0x3FF0_0000_0000_0000
    ∷ 0x3FF0_0000_0000_0000 gives 0x4005_BF0A_8B14_576A  -- 1 and -1; e ends in 6A, one place above the nearest number
    ∷ 0xBFF0_0000_0000_0000 gives 0x3FD7_8B56_362C_EF38
    ∷ 0x3FE6_2E42_FEFA_39EF gives 0x4000_0000_0000_0000  -- ln 2
    ∷ 0x3E2F_FFFF_FFFF_FFFF gives 0x3FF0_0000_0100_0000  -- both sides of 2 ^ -28, up to which 1 + x is the answer
    ∷ 0x3E30_0000_0000_0000 gives 0x3FF0_0000_0100_0000
    ∷ 0x3FD6_2E42_FFFF_FFFF gives 0x3FF6_A09E_66DB_C8D9  -- both sides of 0.5 ln 2 and of 1.5 ln 2, where the reduction changes
    ∷ 0x3FD6_2E43_0000_0000 gives 0x3FF6_A09E_66DB_C8DA
    ∷ 0x3FF0_A2B1_FFFF_FFFF gives 0x4006_A09E_0D12_6A08
    ∷ 0x3FF0_A2B2_0000_0000 gives 0x4006_A09E_0D12_6A0A
    ∷ 0x4024_0000_0000_0000 gives 0x40D5_829D_CF95_0560  -- 10 and -10
    ∷ 0xC024_0000_0000_0000 gives 0x3F07_CD79_B564_7C9A
    ∷ 0x4086_2E42_FEFA_39EF gives 0x7FEF_FFFF_FFFF_FF2A  -- both sides of overflow
    ∷ 0x4086_2E42_FEFA_39F0 gives 0x7FF0_0000_0000_0000
    ∷ 0xC086_232B_DD7A_BCD2 gives 0x0010_0000_0000_007C  -- the last result that is not subnormal, and the first that is
    ∷ 0xC086_232B_DD7A_BCD3 gives 0x000F_FFFF_FFFF_FE7C
    ∷ 0xC087_4910_D52D_3051 gives 0x0000_0000_0000_0001  -- both sides of underflow
    ∷ 0xC087_4910_D52D_3052 gives 0x0000_0000_0000_0000
    ∷ 0x0000_0000_0000_0001 gives 0x3FF0_0000_0000_0000  -- the smallest and the largest argument, infinities, NaN
    ∷ 0x7FEF_FFFF_FFFF_FFFF gives 0x7FF0_0000_0000_0000
    ∷ 0x7FF0_0000_0000_0000 gives 0x7FF0_0000_0000_0000
    ∷ 0xFFF0_0000_0000_0000 gives 0x0000_0000_0000_0000
    ∷ 0x7FF8_0000_0000_0000 gives 0x7FF8_0000_0000_0000
    ∷ []))
unfolding exp_of exp_poly exp_zero exp_part exp_scale signed exp_whole exp_far exp_near exp_reduce exp_large of_bits to_bits add sub mul div neg lt to_unsigned of_int
exp_values = tt
