-- The number that a bit pattern of binary64 stands for, in units of 2 ^ -1074, and which patterns are those of NaNs and of finite numbers. Assumes nothing.
use mathlib.Core.Path.{◌≡◌, sym, ap, ◌∙◌, subst}
use mathlib.Core.Bool.{Bool, true, false, not, cond}
use mathlib.Core.Logic.{inl, inr}
use Prim.Native.Nat.{ℕ, zero, suc, ◌+◌, ◌*◌, ◌/◌, ◌%◌, ◌^◌, ◌≤◌, ◌<◌}
use native.Mathlib.Nat.{mul-one, lt_of_lt_of_le, le_of_lt, ne_of_lt, eq-or-lt_of_le, le_of_suc-le-suc, eq-zero-or-pos, le_trans, le_of_eq, mul-le-mul_right}
use native.Mathlib.Omega.{arith}
use borrow.Author.Tests.{lt-leb, le-ltb, ne_eqb, eq-eqb, leb-false}
use lib.Dec.{T, leb, eqb}
use lib.Pow.{pow-add, pow_mono, shl_lt}
use lib.Ieee.{Float, nan, inf, fin, binary64, odd, of_fields, of_bits, to_bits, nan_bits, fits}
use lib.Ieee.Bits.{of_bits-to_bits, nan_bits_above}
use lib.Ieee.Exact.{HasValue, odd_sign}
use lib.Ieee.Positive.{positive, positive-finite}
use lib.Ieee.Scale.{finite}
use Rattle.rounding.specs.Units.{in_units}
use Rattle.rounding.proofs.Units.{value→units, in_units_lem, placed, placed_units}

-- the units of the number with the exponent's field x and the digits t, x below 2047
abbrev pub units_at : ℕ → ℕ → ℕ
units_at zero t = t
units_at (suc k) t = (2 ^ 52 + t) * 2 ^ k

-- sign, field and digits stand for ±(units_at x t) units
pub fields_value : (s : Bool) (x t : ℕ) → x < 2047 → HasValue (of_fields binary64 s x t) s (units_at x t) (2 ^ 1074)
unfolding of_fields
fields_value s zero t h = subst (λ (a : ℕ). HasValue (odd 53 s t 0 1074) s a (2 ^ 1074)) (mul-one t) (odd_sign 53 s t 0 1074)
fields_value s (suc x) t h = rw (ne_eqb (suc x) 2047 (ne_of_lt h)) (odd_sign 53 s (2 ^ 52 + t) x 1074)

-- a pattern below the infinity's stands for a number with the sign clear, of that many units
pub bits_value : (b : ℕ) → b < 0x7ff0_0000_0000_0000 → HasValue (of_bits binary64 b) false (units_at (b / 2 ^ 52) (b % 2 ^ 52)) (2 ^ 1074)
unfolding of_bits
bits_value b h = rw (lt-leb (2 ^ 63) b (small b h), rest b h) (fields_value false (b / 2 ^ 52) (b % 2 ^ 52) (field b h))
  where
    small : (b : ℕ) → b < 0x7ff0_0000_0000_0000 → b < 2 ^ 63
    small b h = omega arith

    rest : (b : ℕ) → b < 0x7ff0_0000_0000_0000 → b % 2 ^ 63 ≡ b
    rest b h = omega arith

    field : (b : ℕ) → b < 0x7ff0_0000_0000_0000 → b / 2 ^ 52 < 2047
    field b h = omega arith

-- a number that is a units is a by `in_units`
pub units_of_lem : (x : Float) (a : ℕ) → HasValue x false a (2 ^ 1074) → in_units binary64 x ≡ a
units_of_lem x a v = in_units_lem binary64 x a (value→units binary64 x a v)

-- a pattern that is no NaN's and no infinity's stands for a number with its sign, of so many units
pub bits_value_signed : (b : ℕ) → b % 2 ^ 63 < 0x7ff0_0000_0000_0000 → HasValue (of_bits binary64 b) (leb (2 ^ 63) b) (units_at (b % 2 ^ 63 / 2 ^ 52) (b % 2 ^ 52)) (2 ^ 1074)
unfolding of_bits
bits_value_signed b h = fields_value (leb (2 ^ 63) b) (b % 2 ^ 63 / 2 ^ 52) (b % 2 ^ 52) (field (b % 2 ^ 63) h)
  where
    field : (b : ℕ) → b < 0x7ff0_0000_0000_0000 → b / 2 ^ 52 < 2047
    field b h = omega arith

-- its digits are below the sign
pub mod_63 : (b : ℕ) → b % 2 ^ 63 % 2 ^ 52 ≡ b % 2 ^ 52
mod_63 b = omega arith

-- ---- patterns of NaNs, infinities and finite numbers

-- a pattern up to that of infinity is no NaN's
pub number_pattern : (b : ℕ) → b ≤ 0x7ff0_0000_0000_0000 → T (not (nan_bits binary64 b))
number_pattern b h = subst (λ (t : Bool). T (not t)) (sym (nan_bits_above binary64 b ∙ le-ltb _ _ (under b h))) tt
  where
    under : (b : ℕ) → b ≤ 0x7ff0_0000_0000_0000 → b % 2 ^ 63 ≤ 0x7ff0_0000_0000_0000
    under b h = omega arith

finite_fields : (s : Bool) (x t : ℕ) → x < 2048 → T (finite (of_fields binary64 s x t)) → x < 2047
unfolding of_fields
finite_fields s zero t h p = omega arith
finite_fields s (suc x) t h p = elim (eq-or-lt_of_le (le_of_suc-le-suc h)) [
  | inl e ↦ absurd (top (eqb t 0) (rw (eq-eqb (suc x) 2047 e) at p))
  | inr l ↦ l
]
  where
    top : (b : Bool) → T (finite (cond b (inf s) nan)) → ⊥
    top true p = p
    top false p = p

-- that of a finite number is, less its sign, below that of infinity
pub finite_bits : (b : ℕ) → T (finite (of_bits binary64 b)) → b % 2 ^ 63 < 0x7ff0_0000_0000_0000
unfolding of_bits
finite_bits b p = below b (finite_fields (leb (2 ^ 63) b) (b % 2 ^ 63 / 2 ^ 52) (b % 2 ^ 52) (fields_in b) p)
  where
    fields_in : (b : ℕ) → b % 2 ^ 63 / 2 ^ 52 < 2048
    fields_in b = omega arith

    below : (b : ℕ) → b % 2 ^ 63 / 2 ^ 52 < 2047 → b % 2 ^ 63 < 0x7ff0_0000_0000_0000
    below b h = omega arith

-- ---- the pattern of a number above zero

-- b, above zero and below the infinity's pattern, is the pattern of x
pub record Pattern (x : Float) (b : ℕ) : Type 0 where
  pub below : b < 0x7ff0_0000_0000_0000
  pub some : 0 < b
  pub is : of_bits binary64 b ≡ x
  pub value : HasValue x false (units_at (b / 2 ^ 52) (b % 2 ^ 52)) (2 ^ 1074)

zero_pattern : (b : ℕ) → b ≡ 0 → T (positive (of_bits binary64 b)) → ⊥
unfolding of_bits
zero_pattern b e p = rw e at p

-- so is the kit's pattern of a number above zero
pub pattern : (x : Float) → T (fits binary64 x) → T (positive x) → Pattern x (to_bits binary64 x)
pattern x f p =
    let b : ℕ = to_bits binary64 x in
    let e : of_bits binary64 b ≡ x = of_bits-to_bits binary64 x f in
    let q : T (positive (of_bits binary64 b)) = subst (λ (z : Float). T (positive z)) (sym e) p in
    let h : b % 2 ^ 63 < 0x7ff0_0000_0000_0000 = finite_bits b (positive-finite (of_bits binary64 b) q) in
    let l : b < 0x7ff0_0000_0000_0000 = whole b (leb-false (2 ^ 63) b (sign (of_bits binary64 b) _ _ _ q (bits_value_signed b h))) h in
    record {
      below = l;
      some = elim (eq-zero-or-pos b) [ inl z ↦ absurd (zero_pattern b z q) | inr g ↦ g ];
      is = e;
      value = (subst (λ (z : Float). HasValue z false (units_at (b / 2 ^ 52) (b % 2 ^ 52)) (2 ^ 1074)) e (bits_value b l));
    }
  where
    sign : (x : Float) (s : Bool) (a c : ℕ) → T (positive x) → HasValue x s a c → s ≡ false
    sign nan s a c p v = absurd p
    sign (inf t) s a c p v = absurd p
    sign (fin true m e) s a c p v = absurd p
    sign (fin false m e) s a c p v = sym v.0

    whole : (b : ℕ) → b < 2 ^ 63 → b % 2 ^ 63 < 0x7ff0_0000_0000_0000 → b < 0x7ff0_0000_0000_0000
    whole b h k = omega arith

-- ---- a larger pattern is a larger number

-- the units of the number with the pattern b, whose sign is clear
abbrev pub pattern_units : ℕ → ℕ
pattern_units b = units_at (b / 2 ^ 52) (b % 2 ^ 52)

-- below 2 ^ 52, the patterns of the subnormal numbers, that is b
pub subnormal_units : (b : ℕ) → b < 2 ^ 52 → pattern_units b ≡ b
subnormal_units b h = ap (λ (i : ℕ). units_at i (b % 2 ^ 52)) (none b h) ∙ all b h
  where
    none : (b : ℕ) → b < 2 ^ 52 → b / 2 ^ 52 ≡ 0
    none b h = omega arith

    all : (b : ℕ) → b < 2 ^ 52 → b % 2 ^ 52 ≡ b
    all b h = omega arith

-- a field of x stands for less than 2 ^ (52 + x) units
pub units_lt : (x t : ℕ) → t < 2 ^ 52 → units_at x t < 2 ^ (52 + x)
units_lt zero t h = h
units_lt (suc x) t h = lt_of_lt_of_le (shl_lt 53 x (more t h)) (pow_mono (sums x))
  where
    more : (t : ℕ) → t < 2 ^ 52 → 2 ^ 52 + t < 2 ^ 53
    more t h = omega arith

    sums : (x : ℕ) → 53 + x ≤ 52 + suc x
    sums x = omega arith

-- and a field of x + 1 for that or more
pub units_ge : (x t : ℕ) → 2 ^ (52 + x) ≤ units_at (suc x) t
units_ge x t = le_trans (le_of_eq (pow-add 2 52 x)) (mul-le-mul_right (2 ^ x) (from t))
  where
    from : (t : ℕ) → 2 ^ 52 ≤ 2 ^ 52 + t
    from t = omega arith

same_field : (x t u : ℕ) → t ≤ u → units_at x t ≤ units_at x u
same_field zero t u h = h
same_field (suc x) t u h = mul-le-mul_right (2 ^ x) (more t u h)
  where
    more : (t u : ℕ) → t ≤ u → 2 ^ 52 + t ≤ 2 ^ 52 + u
    more t u h = omega arith

fields_mono : (x y t u : ℕ) → t < 2 ^ 52 → (x ≡ y → t ≤ u) → x ≤ y → units_at x t ≤ units_at y u
fields_mono x y t u T k h = elim (eq-or-lt_of_le h) [
  | inl e ↦ subst (λ (z : ℕ). units_at x t ≤ units_at z u) e (same_field x t u (k e))
  | inr l ↦ le_trans (le_of_lt (units_lt x t T)) (higher x y u l)
]
  where
    higher : (x y u : ℕ) → x < y → 2 ^ (52 + x) ≤ units_at y u
    higher x zero u l = absurd (no x l)
      where
        no : (x : ℕ) → x < 0 → ⊥
        no x l = omega arith
    higher x (suc y) u l = le_trans (pow_mono (sums x y l)) (units_ge y u)
      where
        sums : (x y : ℕ) → x < suc y → 52 + x ≤ 52 + y
        sums x y l = omega arith

-- b ≤ c gives pattern_units b ≤ pattern_units c
pub units_mono : (b c : ℕ) → b ≤ c → pattern_units b ≤ pattern_units c
units_mono b c h = fields_mono (b / 2 ^ 52) (c / 2 ^ 52) (b % 2 ^ 52) (c % 2 ^ 52) (in_52 b) (tail b c h) (head b c h)
  where
    in_52 : (b : ℕ) → b % 2 ^ 52 < 2 ^ 52
    in_52 b = omega arith

    tail : (b c : ℕ) → b ≤ c → b / 2 ^ 52 ≡ c / 2 ^ 52 → b % 2 ^ 52 ≤ c % 2 ^ 52
    tail b c h e = omega arith

    head : (b c : ℕ) → b ≤ c → b / 2 ^ 52 ≤ c / 2 ^ 52
    head b c h = omega arith

-- ---- a number above zero is one of at most 53 digits times a power of two

-- x is m 2 ^ g units, m < 2 ^ 53
pub record Digits (x : Float) : Type 0 where
  pub m : ℕ
  pub g : ℕ
  pub m_lt : m < 2 ^ 53
  pub units : in_units binary64 x ≡ m * 2 ^ g

-- so is every number of binary64 above zero
pub digits : (x : Float) → T (fits binary64 x) → T (positive x) → Digits x
digits nan f p = absurd p
digits (inf s) f p = absurd p
digits (fin true n e) f p = absurd p
digits (fin false n e) f p =
    let d = placed binary64 false n e f in
    record { m = n; g = d.place; m_lt = d.digits; units = in_units_lem binary64 (fin false n e) (n * 2 ^ d.place) (λ (t : T false). absurd t, placed_units binary64 n e d) }
