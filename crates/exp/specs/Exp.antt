-- The exponential: fdlibm 5.3, e_exp.c, operation by operation, each rounded once. Constants stand by their bit patterns.
-- fdlibm's k, by which the exponent of the result is moved, is n here, or -n where the sign bit s of x is 1.
use Rattle.std.specs.Prelude.{ℕ, ◌+◌, ◌-◌, ◌*◌, ◌/◌, ◌%◌, ◌^◌, List, [], ◌∷◌, Float, if◌then◌else◌}
use Rattle.std.specs.Float.Ieee.{neg, lt, to_unsigned}
use Rattle.number.specs.Number.{◌<?◌, ◌≤?◌, ◌=?◌, ◌⊕◌, ◌⊖◌, ◌⊗◌, ◌⊘◌, pattern_of, float, of_whole, zero⁺, one, two}
use Rattle.number.specs.Table.{◌!◌}

-- ---- constants

-- P1 to P5
abbrev pub exp_p : List Float
exp_p = float 0x3FC5_5555_5555_553E ∷ float 0xBF66_C16C_16BE_BD93 ∷ float 0x3F11_566A_AF25_DE2C ∷ float 0xBEBB_BD41_C5D2_6BF1 ∷ float 0x3E66_3769_72BE_A4D0 ∷ []

-- halF, ln2HI and ln2LO: for either sign of x
abbrev pub halves : List Float
halves = float 0x3FE0_0000_0000_0000 ∷ float 0xBFE0_0000_0000_0000 ∷ []

abbrev pub ln2_hi : List Float
ln2_hi = float 0x3FE6_2E42_FEE0_0000 ∷ float 0xBFE6_2E42_FEE0_0000 ∷ []

abbrev pub ln2_lo : List Float
ln2_lo = float 0x3DEA_39EF_3579_3C76 ∷ float 0xBDEA_39EF_3579_3C76 ∷ []

abbrev pub inv_ln2 : Float
inv_ln2 = float 0x3FF7_1547_652B_82FE

-- 2 ^ -1000 and 1e300
abbrev pub two_m1000 : Float
two_m1000 = float 0x0170_0000_0000_0000

abbrev pub huge : Float
huge = float 0x7E37_E43C_8800_759C

-- above the first the result is too large, below the second too small: 709.78 and -745.13
abbrev pub over_at : Float
over_at = float 0x4086_2E42_FEFA_39EF

abbrev pub under_at : Float
under_at = float 0xC087_4910_D52D_3051

-- ---- the primary range

-- t * (P1 + t * (P2 + t * (P3 + t * (P4 + t * P5))))
unfoldable pub exp_poly : Float → Float
exp_poly t = t ⊗ (exp_p ! 0 ⊕ t ⊗ (exp_p ! 1 ⊕ t ⊗ (exp_p ! 2 ⊕ t ⊗ (exp_p ! 3 ⊕ t ⊗ exp_p ! 4))))

-- k = 0: x is small enough as it is
unfoldable pub exp_zero : Float → Float
exp_zero x = let c = x ⊖ exp_poly (x ⊗ x) in one ⊖ (x ⊗ c ⊘ (c ⊖ two) ⊖ x)

-- e ^ (hi - lo), before k is added to its exponent
unfoldable pub exp_part : Float → Float → Float
exp_part hi lo =
    let x = hi ⊖ lo in
    let c = x ⊖ exp_poly (x ⊗ x) in
    one ⊖ (lo ⊖ x ⊗ c ⊘ (two ⊖ c) ⊖ hi)

-- k added to the exponent of y; below -1021 in two steps
unfoldable pub exp_scale : Float → ℕ → ℕ → Float
exp_scale y n s =
    if s =? 0 then float (pattern_of y + n * 2 ^ 52)
    else (if n ≤? 1021 then float (pattern_of y - n * 2 ^ 52)
    else float (pattern_of y - (n - 1000) * 2 ^ 52) ⊗ two_m1000)

-- ---- the reduction: x is k * ln 2 + hi - lo

-- v with the sign s
unfoldable pub signed : ℕ → Float → Float
signed s v = if s =? 0 then v else neg v

-- the whole part of |x| / ln 2 + 1/2
unfoldable pub exp_whole : Float → ℕ → ℕ
exp_whole x s = to_unsigned 64 (signed s (inv_ln2 ⊗ x ⊕ halves ! s))

-- |x| at least 1.5 ln 2
unfoldable pub exp_far : Float → ℕ → Float
exp_far x s =
    let n = exp_whole x s in
    let t = signed s (of_whole n) in
    exp_scale (exp_part (x ⊖ t ⊗ ln2_hi ! 0) (t ⊗ ln2_lo ! 0)) n s

-- |x| between 0.5 ln 2 and 1.5 ln 2: k is 1 or -1
unfoldable pub exp_near : Float → ℕ → Float
exp_near x s = exp_scale (exp_part (x ⊖ ln2_hi ! s) (ln2_lo ! s)) 1 s

-- by hx, the high word of |x|
unfoldable pub exp_reduce : Float → ℕ → ℕ → Float
exp_reduce x hx s =
    if 0x3fd6_2e42 <? hx then if hx <? 0x3ff0_a2b2 then exp_near x s else exp_far x s
    else (if hx <? 0x3e30_0000 then one ⊕ x
    else exp_zero x)

-- ---- all arguments

-- |x| at least 709.78: infinities and NaN, overflow, underflow
unfoldable pub exp_large : Float → ℕ → ℕ → Float
exp_large x hx s =
    if 0x7ff0_0000 ≤? hx then if pattern_of x % 2 ^ 52 =? 0 then if s =? 0 then x else zero⁺ else x ⊕ x
    else (if lt over_at x then huge ⊗ huge
    else (if lt x under_at then two_m1000 ⊗ two_m1000
    else exp_reduce x hx s))

unfoldable pub exp_of : Float → Float
exp_of x =
    let hx = pattern_of x % 2 ^ 63 / 2 ^ 32 in
    let s = pattern_of x / 2 ^ 63 in
    if 0x4086_2e42 ≤? hx then exp_large x hx s else exp_reduce x hx s
