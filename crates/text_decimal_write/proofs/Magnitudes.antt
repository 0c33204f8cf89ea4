-- From a pattern to the text of its number. Assumes nothing.
use mathlib.Core.Path.{◌≡◌, refl, sym, ap, ◌∙◌, subst}
use mathlib.Core.Bool.{Bool, true, false, cond}
use mathlib.Core.List.{[], ◌∷◌, ◌++◌, append-nil}
use Rattle.std.proofs.Common.{Option, Some, None}
use mathlib.Core.Logic.{inl, inr}
use Prim.Native.Nat.{ℕ, zero, suc, ◌+◌, ◌-◌, ◌*◌, ◌/◌, ◌%◌, ◌^◌, ◌≤◌, ◌<◌}
use native.Mathlib.Nat.{le_of_eq, le_of_lt, not-le_of_lt, mul-one, mul-pos, mul-div_cancel}
use native.Mathlib.Omega.{arith}
use borrow.Author.Tests.{lt-ltb, le-ltb, ne_eqb}
use lib.Dec.{T, eqb, leb, lit<}
use lib.Pow.{pow_pos}
use lib.Ieee.{Float, nan, inf, fin, binary64, down, fits, of_bits, to_bits}
use lib.IntN.{ℤ}
use lib.Ieee.Fits.{down_pos}
use lib.Ieee.Bits.{of_bits-to_bits}
use lib.Ieee.Exact.{HasValue}
use lib.Ieee.Scale.{finite}
use lib.Ieee.Nearest.{closest}
use Rattle.rounding.specs.Units.{in_units}
use Rattle.rounding.proofs.Choose.{le_or_lt}
use Rattle.rounding.proofs.Pattern.{units_at, bits_value_signed, finite_bits, mod_63}
use Rattle.text_decimal_write.specs.declared.Decimal.{Decimal}
use Rattle.text_decimal_write.specs.Decimals.{over, under, reaches, largest, tens, decimal_of, units_decimal, decimal_text, units_text, sign_text, text_of}
use Rattle.text_decimal_write.specs.Room.{units_of, opening, finite_decimal, laid}

-- ---- tens are few

largest_most : (u n : ℕ) → largest u n ≤ n
unfolding largest
largest_most u zero = omega arith
largest_most u (suc n) = go (reaches u (suc n)) (largest u n) (largest_most u n)
  where
    go : (b : Bool) (k : ℕ) → k ≤ n → cond b (suc n) k ≤ suc n
    go true k h = omega arith
    go false k h = omega arith

pub tens_few : (u : ℕ) (d : Decimal) → d ≡ decimal_of u → d.tens < 1000
unfolding decimal_of tens
tens_few u d e =
    subst (λ (z : Decimal). z.tens < 1000) (sym e) (go (eqb (closest (over u (tens u)) (under (tens u))) (10 ^ 17)) (closest (over u (tens u)) (under (tens u))) (tens u) (largest_most u 632))
  where
    go : (b : Bool) (d t : ℕ) → t ≤ 632 → (cond {A = Decimal} b (record { digits = 10 ^ 16; tens = t + 1 }) (record { digits = d; tens = t })).tens < 1000
    go true d t h = omega arith
    go false d t h = omega arith

-- ---- the three kinds of a finite pattern

some_decimal : (u : ℕ) → 0 < u → units_decimal u ≡ decimal_of u
unfolding units_decimal
some_decimal u h = ap (λ (b : Bool). cond b (record { digits = 0; tens = 324 }) (decimal_of u)) (ne_eqb u 0 (λ (e : u ≡ 0). omega arith))

pub zero_decimal : (b : ℕ) → b ≡ 0 → record { digits = 0; tens = 324 } ≡ units_decimal (units_of b)
unfolding units_decimal units_of
zero_decimal b e = sym (ap (λ (z : ℕ). units_decimal (units_of z)) e)

pub small_decimal : (b : ℕ) → (b ≡ 0 → ⊥) → b < 2 ^ 52 → decimal_of (b * 2 ^ 0) ≡ units_decimal (units_of b)
unfolding units_of
small_decimal b z h =
    ap decimal_of (mul-one b)
    ∙ sym (ap units_decimal (ap (λ (t : Bool). cond t b ((2 ^ 52 + b % 2 ^ 52) * 2 ^ (b / 2 ^ 52 - 1))) (lt-ltb b (2 ^ 52) h)) ∙ some_decimal b (some b z))
  where
    some : (b : ℕ) → (b ≡ 0 → ⊥) → 0 < b
    some zero z = absurd (z refl)
    some (suc b) z = omega arith

pub large_decimal : (b : ℕ) → 2 ^ 52 ≤ b → decimal_of ((2 ^ 52 + b % 2 ^ 52) * 2 ^ (b / 2 ^ 52 - 1)) ≡ units_decimal (units_of b)
unfolding units_of
large_decimal b h =
    sym
    (ap units_decimal (ap (λ (t : Bool). cond t b ((2 ^ 52 + b % 2 ^ 52) * 2 ^ (b / 2 ^ 52 - 1))) (le-ltb b (2 ^ 52) h))
    ∙ some_decimal ((2 ^ 52 + b % 2 ^ 52) * 2 ^ (b / 2 ^ 52 - 1)) (mul-pos (some b) (pow_pos (b / 2 ^ 52 - 1))))
  where
    some : (b : ℕ) → 0 < 2 ^ 52 + b % 2 ^ 52
    some b = omega arith

-- ---- a number's pattern

units_at_lem : (m : ℕ) → units_at (m / 2 ^ 52) (m % 2 ^ 52) ≡ units_of m
unfolding units_of
units_at_lem m = elim (le_or_lt (2 ^ 52) m) [
  | inl h ↦
      ap (λ (z : ℕ). units_at z (m % 2 ^ 52)) (back m h)
      ∙ sym (ap (λ (t : Bool). cond t m ((2 ^ 52 + m % 2 ^ 52) * 2 ^ (m / 2 ^ 52 - 1))) (le-ltb m (2 ^ 52) h))
  | inr h ↦
      ap (λ (z : ℕ). units_at z (m % 2 ^ 52)) (none m h) ∙ all m h ∙ sym (ap (λ (t : Bool). cond t m ((2 ^ 52 + m % 2 ^ 52) * 2 ^ (m / 2 ^ 52 - 1))) (lt-ltb m (2 ^ 52) h))
]
  where
    back : (m : ℕ) → 2 ^ 52 ≤ m → m / 2 ^ 52 ≡ suc (m / 2 ^ 52 - 1)
    back m h = omega arith

    none : (m : ℕ) → m < 2 ^ 52 → m / 2 ^ 52 ≡ 0
    none m h = omega arith

    all : (m : ℕ) → m < 2 ^ 52 → m % 2 ^ 52 ≡ m
    all m h = omega arith

-- the sign and the units of a finite number, by its pattern
pub record Parts (s : Bool) (m : ℕ) (e : ℤ) (b : ℕ) : Type 0 where
  pub below : b % 2 ^ 63 < 0x7ff0_0000_0000_0000
  pub sign : s ≡ leb (2 ^ 63) b
  pub units : in_units binary64 (fin s m e) ≡ units_of (b % 2 ^ 63)

pub parts : (s : Bool) (m : ℕ) (e : ℤ) (b : ℕ) → T (fits binary64 (fin s m e)) → b ≡ to_bits binary64 (fin s m e) → Parts s m e b
unfolding in_units
parts s m e b f q =
    let x : of_bits binary64 b ≡ fin s m e = ap (of_bits binary64) q ∙ of_bits-to_bits binary64 (fin s m e) f in
    let l : b % 2 ^ 63 < 0x7ff0_0000_0000_0000 = finite_bits b (subst (λ (z : Float). T (finite z)) (sym x) tt) in
    let v = subst (λ (z : Float). HasValue z (leb (2 ^ 63) b) (units_at (b % 2 ^ 63 / 2 ^ 52) (b % 2 ^ 52)) (2 ^ 1074)) x (bits_value_signed b l) in
    record {
      below = l;
      sign = v.0;
      units =
          (ap (λ (z : ℕ). z / down e) v.1
          ∙ mul-div_cancel (units_at (b % 2 ^ 63 / 2 ^ 52) (b % 2 ^ 52)) (down_pos e)
          ∙ ap (λ (z : ℕ). units_at (b % 2 ^ 63 / 2 ^ 52) z) (sym (mod_63 b))
          ∙ units_at_lem (b % 2 ^ 63));
    }

-- ---- the text of a number, by its pattern

pub nan_magnitude : (b : ℕ) → b ≡ to_bits binary64 nan → 0x7ff0_0000_0000_0000 < b % 2 ^ 63
unfolding to_bits
nan_magnitude b e = subst (λ (z : ℕ). 0x7ff0_0000_0000_0000 < z % 2 ^ 63) (sym e) (lit< tt)

pub inf_magnitude : (s : Bool) (b : ℕ) → b ≡ to_bits binary64 (inf s) → (b % 2 ^ 63 ≡ 0x7ff0_0000_0000_0000) × (leb (2 ^ 63) b ≡ s)
unfolding to_bits
inf_magnitude true b e = (ap (λ (z : ℕ). z % 2 ^ 63) e, ap (leb (2 ^ 63)) e)
inf_magnitude false b e = (ap (λ (z : ℕ). z % 2 ^ 63) e, ap (leb (2 ^ 63)) e)

pub opening_nan : (x : Float) (b : ℕ) → T (fits binary64 x) → b ≡ to_bits binary64 x → 0x7ff0_0000_0000_0000 < b % 2 ^ 63
    → (opening x ≡ 110 ∷ 97 ∷ 110 ∷ []) × (finite_decimal x ≡ None)
unfolding opening finite_decimal
opening_nan nan b f e h = (refl, refl)
opening_nan (inf s) b f e h = absurd (not-le_of_lt h (le_of_eq (inf_magnitude s b e).0))
opening_nan (fin s m y) b f e h = absurd (not-le_of_lt h (le_of_lt (parts s m y b f e).below))

pub opening_inf : (x : Float) (b : ℕ) → T (fits binary64 x) → b ≡ to_bits binary64 x → b % 2 ^ 63 ≡ 0x7ff0_0000_0000_0000
    → (opening x ≡ sign_text (leb (2 ^ 63) b) ++ 105 ∷ 110 ∷ 102 ∷ []) × (finite_decimal x ≡ None)
unfolding opening finite_decimal
opening_inf nan b f e h = absurd (not-le_of_lt (nan_magnitude b e) (le_of_eq h))
opening_inf (inf s) b f e h = (ap (λ (t : Bool). sign_text t ++ 105 ∷ 110 ∷ 102 ∷ []) (sym (inf_magnitude s b e).1), refl)
opening_inf (fin s m y) b f e h = absurd (not-le_of_lt (parts s m y b f e).below (le_of_eq (sym h)))

pub opening_finite : (x : Float) (b : ℕ) → T (fits binary64 x) → b ≡ to_bits binary64 x → b % 2 ^ 63 < 0x7ff0_0000_0000_0000
    → (opening x ≡ sign_text (leb (2 ^ 63) b)) × (finite_decimal x ≡ Some (units_decimal (units_of (b % 2 ^ 63))))
unfolding opening finite_decimal
opening_finite nan b f e h = absurd (not-le_of_lt (nan_magnitude b e) (le_of_lt h))
opening_finite (inf s) b f e h = absurd (not-le_of_lt h (le_of_eq (sym (inf_magnitude s b e).0)))
opening_finite (fin s m y) b f e h =
    let p = parts s m y b f e in
    (ap sign_text p.sign, ap (λ (u : ℕ). Some (units_decimal u)) p.units)

-- ---- the text, from its opening and its decimal

text_joined : (x : Float) → opening x ++ laid decimal_text (finite_decimal x) ≡ text_of x
unfolding opening finite_decimal text_of units_text
text_joined nan = refl
text_joined (inf s) = append-nil (sign_text s ++ 105 ∷ 110 ∷ 102 ∷ [])
text_joined (fin s m e) = refl

pub text_some : (x : Float) (d : Decimal) → finite_decimal x ≡ Some d → opening x ++ decimal_text d ≡ text_of x
text_some x d e = ap (λ (o : Option Decimal). opening x ++ laid decimal_text o) (sym e) ∙ text_joined x

pub text_none : (x : Float) → finite_decimal x ≡ None → opening x ≡ text_of x
text_none x e = sym (append-nil (opening x)) ∙ ap (λ (o : Option Decimal). opening x ++ laid decimal_text o) (sym e) ∙ text_joined x
