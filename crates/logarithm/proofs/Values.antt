-- Values of the logarithm, computed from its definition. The bits are those that Java's StrictMath.log gives, which is fdlibm 5.3. Assumes nothing.
use mathlib.Core.List.{[], ◌∷◌}
use lib.Dec.{T}
use lib.Ieee.{of_bits, to_bits, add, sub, mul, div, neg, eq, of_int}
use Rattle.number.proofs.Values.{agrees, ◌gives◌}
use Rattle.logarithm.specs.Log.{log_of, log_poly, log_close, log_mid, log_out, log_far, log_normal}

pub log_values : T (agrees log_of (
    0x3FF0_0000_0000_0000 gives 0x0000_0000_0000_0000  -- 1: k = 0 and f = 0
    ∷ 0x0000_0000_0000_0000 gives 0xFFF0_0000_0000_0000  -- minus infinity, at +0 and at -0
    ∷ 0x8000_0000_0000_0000 gives 0xFFF0_0000_0000_0000
    ∷ 0xBFF0_0000_0000_0000 gives 0x7FF8_0000_0000_0000  -- NaN below zero: -1, the negative number nearest to zero, minus infinity
    ∷ 0x8000_0000_0000_0001 gives 0x7FF8_0000_0000_0000
    ∷ 0xFFF0_0000_0000_0000 gives 0x7FF8_0000_0000_0000
    ∷ 0x7FF0_0000_0000_0000 gives 0x7FF0_0000_0000_0000  -- infinity and NaN
    ∷ 0x7FF8_0000_0000_0000 gives 0x7FF8_0000_0000_0000
    ∷ 0x4000_0000_0000_0000 gives 0x3FE6_2E42_FEFA_39EF  -- f = 0 and k not 0: 2 and 1/2
    ∷ 0x3FE0_0000_0000_0000 gives 0xBFE6_2E42_FEFA_39EF
    ∷ 0x4024_0000_0000_0000 gives 0x4002_6BB1_BBB5_5516  -- the usual way, k above and below 0: 10 and 0.1
    ∷ 0x3FB9_9999_9999_999A gives 0xC002_6BB1_BBB5_5515
    ∷ 0x3FF6_6666_6666_6666 gives 0x3FD5_88C2_D913_348E  -- 1.4 and 2.8, where f * f / 2 is taken apart
    ∷ 0x4006_6666_6666_6666 gives 0x3FF0_7952_35C1_EA1B
    ∷ 0x3FF0_0000_0000_0001 gives 0x3CAF_FFFF_FFFF_FFFF  -- the neighbours of 1
    ∷ 0x3FEF_FFFF_FFFF_FFFF gives 0xBCA0_0000_0000_0000
    ∷ 0x0000_0000_0000_0001 gives 0xC087_4385_446D_71C3  -- the ends of the subnormal and of the normal numbers
    ∷ 0x000F_FFFF_FFFF_FFFF gives 0xC086_232B_DD7A_BCD2
    ∷ 0x0010_0000_0000_0000 gives 0xC086_232B_DD7A_BCD2
    ∷ 0x7FEF_FFFF_FFFF_FFFF gives 0x4086_2E42_FEFA_39EF
    ∷ []))
unfolding log_of log_poly log_close log_mid log_out log_far log_normal of_bits to_bits add sub mul div neg eq of_int
log_values = tt
