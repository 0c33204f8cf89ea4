-- The logarithm: fdlibm 5.3, e_log.c, operation by operation, each rounded once. Constants stand by their bit patterns.
-- fdlibm's k is a - base: a is the exponent's field, one more where x is halved; base is the field's bias, 1023, or 1077 where x
-- was multiplied by 2 ^ 54 first. So x is 2 ^ k * (1 + f), with 1 + f from the root of 1/2 to the root of 2.
use Rattle.std.specs.Prelude.{ℕ, ◌+◌, ◌-◌, ◌*◌, ◌/◌, ◌%◌, ◌^◌, List, [], ◌∷◌, Float, if◌then◌else◌}
use Rattle.std.specs.Float.{binary64}
use Rattle.std.specs.Float.Ieee.{eq, of_int, minus}
use Rattle.number.specs.Number.{◌<?◌, ◌≤?◌, ◌=?◌, ◌⊕◌, ◌⊖◌, ◌⊗◌, ◌⊘◌, pattern_of, float, zero⁺, half, one, two}
use Rattle.number.specs.Table.{◌!◌}

-- ---- constants

-- Lg1 to Lg7
abbrev pub log_l : List Float
log_l =
    float 0x3FE5_5555_5555_5593 ∷ float 0x3FD9_9999_9997_FA04 ∷ float 0x3FD2_4924_9422_9359 ∷ float 0x3FCC_71C5_1D8E_78AF ∷ float 0x3FC7_4664_96CB_03DE
    ∷ float 0x3FC3_9A09_D078_C69F
    ∷ float 0x3FC2_F112_DF3E_5244
    ∷ []

abbrev pub ln2_hi : Float
ln2_hi = float 0x3FE6_2E42_FEE0_0000

abbrev pub ln2_lo : Float
ln2_lo = float 0x3DEA_39EF_3579_3C76

-- 2 ^ 54 and -2 ^ 54
abbrev pub two54 : Float
two54 = float 0x4350_0000_0000_0000

abbrev pub minus_two54 : Float
minus_two54 = float 0xC350_0000_0000_0000

-- 0.33333333333333333
abbrev pub third : Float
third = float 0x3FD5_5555_5555_5555

-- ---- log (1 + f) + k * ln 2

-- k as a number: fdlibm's dk
abbrev pub dk_of : ℕ → ℕ → Float
dk_of a base = of_int binary64 (minus a base)

-- |f| at most 2 ^ -20
unfoldable pub log_close : Float → ℕ → ℕ → Float
log_close f a base =
    let dk = dk_of a base in
    let R = f ⊗ f ⊗ (half ⊖ third ⊗ f) in
    if eq f zero⁺ then if a =? base then zero⁺ else dk ⊗ ln2_hi ⊕ dk ⊗ ln2_lo
    else (if a =? base then f ⊖ R
    else dk ⊗ ln2_hi ⊖ (R ⊖ dk ⊗ ln2_lo ⊖ f))

-- t2 + t1, the odd and the even terms of the polynomial
unfoldable pub log_poly : Float → Float
log_poly z =
    let w = z ⊗ z in
    let t1 = w ⊗ (log_l ! 1 ⊕ w ⊗ (log_l ! 3 ⊕ w ⊗ log_l ! 5)) in
    let t2 = z ⊗ (log_l ! 0 ⊕ w ⊗ (log_l ! 2 ⊕ w ⊗ (log_l ! 4 ⊕ w ⊗ log_l ! 6))) in
    t2 ⊕ t1

-- the significand before halving between 1.38 and 1.42, where f * f / 2 is taken apart
unfoldable pub log_mid : Float → Float → Float → ℕ → ℕ → Float
log_mid f s R a base =
    let dk = dk_of a base in
    let hfsq = half ⊗ f ⊗ f in
    if a =? base then f ⊖ (hfsq ⊖ s ⊗ (hfsq ⊕ R))
    else dk ⊗ ln2_hi ⊖ (hfsq ⊖ (s ⊗ (hfsq ⊕ R) ⊕ dk ⊗ ln2_lo) ⊖ f)

unfoldable pub log_out : Float → Float → Float → ℕ → ℕ → Float
log_out f s R a base =
    let dk = dk_of a base in
    if a =? base then f ⊖ s ⊗ (f ⊖ R)
    else dk ⊗ ln2_hi ⊖ (s ⊗ (f ⊖ R) ⊖ dk ⊗ ln2_lo ⊖ f)

-- by m, the high 20 bits of the significand
unfoldable pub log_far : Float → ℕ → ℕ → ℕ → Float
log_far f m a base =
    let s = f ⊘ (two ⊕ f) in
    let R = log_poly (s ⊗ s) in
    if m <? 0x6_147a then log_out f s R a base
    else (if 0x6_b851 <? m then log_out f s R a base
    else log_mid f s R a base)

-- ---- all arguments

-- b is the pattern of a finite number above zero that is not subnormal; j is 1 where it is halved
unfoldable pub log_normal : ℕ → ℕ → Float
log_normal b base =
    let m = b / 2 ^ 32 % 2 ^ 20 in
    let j = (m + 0x9_5f64) / 2 ^ 20 in
    let f = float ((0x3ff - j) * 2 ^ 52 + b % 2 ^ 52) ⊖ one in
    let a = b / 2 ^ 52 + j in
    if (m + 2) % 2 ^ 20 <? 3 then log_close f a base else log_far f m a base

-- a zero, a number below zero, infinity or NaN, a subnormal number, any other
unfoldable pub log_of : Float → Float
log_of x =
    let b = pattern_of x in
    if b % 2 ^ 63 =? 0 then minus_two54 ⊘ zero⁺
    else (if 2 ^ 63 ≤? b then (x ⊖ x) ⊘ zero⁺
    else (if 0x7ff0_0000_0000_0000 ≤? b then x ⊕ x
    else (if b <? 2 ^ 52 then log_normal (pattern_of (x ⊗ two54)) 1077
    else log_normal b 1023)))
