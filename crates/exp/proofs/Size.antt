-- What the high word and the sign bit of x say of its size and its sign. Assumes nothing.
use mathlib.Core.Path.{◌≡◌, refl, sym, ap, ◌∙◌, subst}
use mathlib.Core.Bool.{Bool, true, false, true≢false}
use Prim.Native.Nat.{ℕ, ◌*◌, ◌/◌, ◌%◌, ◌^◌, ◌≤◌, ◌<◌}
use native.Mathlib.Nat.{le_trans, le_of_eq, mul-le-mul_right}
use native.Mathlib.Omega.{arith}
use lib.Pow.{pow_pos}
use lib.Dec.{T, leb, lit≤}
use lib.IntN.{ℤ}
use lib.Ieee.{Float, nan, inf, fin, binary64, up, down, lt, of_bits, to_bits, fits, is_nan}
use lib.Ieee.Bits.{of_bits-to_bits, to_bits-lt}
use lib.Ieee.Exact.{HasValue}
use lib.Ieee.Positive.{through}
use lib.Ieee.Scale.{finite}
use borrow.Author.Tests.{le-ltb, ltb-false, leb-true, leb-false}
use Rattle.number.specs.Number.{pattern_of}
use Rattle.rounding.specs.Bounds.{Within}
use Rattle.rounding.proofs.Pattern.{units_at, pattern_units, units_mono, bits_value_signed, mod_63, finite_bits}
use Rattle.exp.specs.Exp.{over_at, under_at}
use Rattle.exp.specs.Range.{Split, Sized}
use Rattle.exp.proofs.Far.{sgn}

-- ---- the pattern of a finite number

sign_bit : (s : Bool) (b : ℕ) → b < 2 ^ 64 → s ≡ leb (2 ^ 63) b → b / 2 ^ 63 ≡ sgn s
sign_bit false b h e = go b (leb-false (2 ^ 63) b (sym e))
  where
    go : (b : ℕ) → b < 2 ^ 63 → b / 2 ^ 63 ≡ 0
    go b h = omega arith
sign_bit true b h e = go b h (leb-true (2 ^ 63) b (sym e))
  where
    go : (b : ℕ) → b < 2 ^ 64 → 2 ^ 63 ≤ b → b / 2 ^ 63 ≡ 1
    go b h k = omega arith

-- x is `fin s m e`: its pattern less the sign, and its sign bit
pub record Own (s : Bool) (m : ℕ) (e : ℤ) : Type 0 where
  pub below : pattern_of (fin s m e) % 2 ^ 63 < 0x7ff0_0000_0000_0000
  pub value : HasValue (fin s m e) s (pattern_units (pattern_of (fin s m e) % 2 ^ 63)) (2 ^ 1074)
  pub sign : pattern_of (fin s m e) / 2 ^ 63 ≡ sgn s

pub own : (s : Bool) (m : ℕ) (e : ℤ) → T (fits binary64 (fin s m e)) → Own s m e
own s m e f =
    let b : ℕ = pattern_of (fin s m e) in
    let q : of_bits binary64 b ≡ fin s m e = of_bits-to_bits binary64 (fin s m e) f in
    let l : b % 2 ^ 63 < 0x7ff0_0000_0000_0000 = finite_bits b (subst (λ (z : Float). T (finite z)) (sym q) tt) in
    let v : HasValue (fin s m e) (leb (2 ^ 63) b) (units_at (b % 2 ^ 63 / 2 ^ 52) (b % 2 ^ 52)) (2 ^ 1074) =
    subst (λ (z : Float). HasValue z (leb (2 ^ 63) b) (units_at (b % 2 ^ 63 / 2 ^ 52) (b % 2 ^ 52)) (2 ^ 1074)) q (bits_value_signed b l) in
    record {
      below = l;
      value = (refl, v.1 ∙ ap (λ (t : ℕ). units_at (b % 2 ^ 63 / 2 ^ 52) t * down e) (sym (mod_63 b)));
      sign = sign_bit s b (to_bits-lt binary64 (fin s m e) f) v.0;
    }

-- ---- a bound on the pattern is one on the size: c is a pattern, a / d its number or a neighbour of that

pattern_le : (s : Bool) (m : ℕ) (e : ℤ) (b c a d : ℕ) → HasValue (fin s m e) s (pattern_units b) (2 ^ 1074) → b ≤ c → pattern_units c * d ≤ a * 2 ^ 1074 → m * up e * d ≤ a * down e
pattern_le s m e b c a d v h k = through (m * up e) (pattern_units b) a (down e) (2 ^ 1074) d (pow_pos 1074) (le_of_eq v.1) (le_trans (mul-le-mul_right d (units_mono b c h)) k)

pattern_ge : (s : Bool) (m : ℕ) (e : ℤ) (b c a d : ℕ) → HasValue (fin s m e) s (pattern_units b) (2 ^ 1074) → c ≤ b → a * 2 ^ 1074 ≤ pattern_units c * d → a * down e ≤ m * up e * d
pattern_ge s m e b c a d v h k = through a (pattern_units b) (m * up e) d (2 ^ 1074) (down e) (pow_pos 1074) (le_trans k (mul-le-mul_right d (units_mono c b h))) (le_of_eq (sym v.1))

-- the same for the high word w
pub word_lt : (s : Bool) (m : ℕ) (e : ℤ) (w a d : ℕ) → Own s m e → pattern_of (fin s m e) % 2 ^ 63 / 2 ^ 32 < w → pattern_units (w * 2 ^ 32) * d ≤ a * 2 ^ 1074 → m * up e * d ≤ a * down e
word_lt s m e w a d o h k = pattern_le s m e (pattern_of (fin s m e) % 2 ^ 63) (w * 2 ^ 32) a d o.value (go (pattern_of (fin s m e) % 2 ^ 63) w h) k
  where
    go : (b w : ℕ) → b / 2 ^ 32 < w → b ≤ w * 2 ^ 32
    go b w h = omega arith

pub word_ge : (s : Bool) (m : ℕ) (e : ℤ) (w a d : ℕ) → Own s m e → w ≤ pattern_of (fin s m e) % 2 ^ 63 / 2 ^ 32 → a * 2 ^ 1074 ≤ pattern_units (w * 2 ^ 32) * d → a * down e ≤ m * up e * d
word_ge s m e w a d o h k = pattern_ge s m e (pattern_of (fin s m e) % 2 ^ 63) (w * 2 ^ 32) a d o.value (go (pattern_of (fin s m e) % 2 ^ 63) w h) k
  where
    go : (b w : ℕ) → w ≤ b / 2 ^ 32 → w * 2 ^ 32 ≤ b
    go b w h = omega arith

-- ---- the tests of `exp` and of `exp_large`

-- the overflow threshold is 6243314768165359 / 2 ^ 43
not_over : (s : Bool) (m : ℕ) (e : ℤ) → m * up e * 2 ^ 43 ≤ 6243314768165359 * down e → lt over_at (fin s m e) ≡ false
unfolding lt of_bits
not_over false m e h = le-ltb (6243314768165359 * 1 * down e) (m * up e * 2 ^ 43) h
not_over true m e h = refl

-- below 709.78
pub below_large : (x : Float) (hx s : ℕ) → T (fits binary64 x) → is_nan x ≡ false → Split x hx s → hx < 0x4086_2e42 → Within x 746 1 × (lt over_at x ≡ false)
unfolding is_nan to_bits
below_large nan hx s f n p h = absurd (true≢false n)
below_large (inf true) hx s f n p h = absurd (omega (arith, p.word))
below_large (inf false) hx s f n p h = absurd (omega (arith, p.word))
below_large (fin t m e) hx s f n p h =
    let o = own t m e f in
    let l = subst (λ (z : ℕ). z < 0x4086_2e42) p.word h in
    (word_lt t m e 0x4086_2e42 746 1 o l (lit≤ tt), not_over t m e (word_lt t m e 0x4086_2e42 6243314768165359 (2 ^ 43) o l (lit≤ tt)))

-- an infinity's digits are 0
pub infinite : (x : Float) (hx s : ℕ) → T (fits binary64 x) → is_nan x ≡ false → Split x hx s → 0x7ff0_0000 ≤ hx → pattern_of x % 2 ^ 52 ≡ 0
infinite nan hx s f n p h = absurd (true≢false (unfold is_nan in n))
infinite (inf true) hx s f n p h = unfold to_bits in refl
infinite (inf false) hx s f n p h = unfold to_bits in refl
infinite (fin t m e) hx s f n p h = absurd (no (pattern_of (fin t m e) % 2 ^ 63) (own t m e f).below (subst (λ (z : ℕ). 0x7ff0_0000 ≤ z) p.word h))
  where
    no : (b : ℕ) → b < 0x7ff0_0000_0000_0000 → 0x7ff0_0000 ≤ b / 2 ^ 32 → ⊥
    no b h k = omega arith

over_bound : (m : ℕ) (e : ℤ) → lt over_at (fin false m e) ≡ false → m * up e * 1 ≤ 746 * down e
unfolding lt of_bits
over_bound m e h = through (m * up e) 6243314768165359 746 (down e) (2 ^ 43) 1 (pow_pos 43) (ltb-false (6243314768165359 * 1 * down e) (m * up e * 2 ^ 43) h) (lit≤ tt)

under_bound : (m : ℕ) (e : ℤ) → lt (fin true m e) under_at ≡ false → m * up e * 1 ≤ 746 * down e
unfolding lt of_bits
under_bound m e h = through (m * up e) 6554261109157969 746 (down e) (2 ^ 43) 1 (pow_pos 43) (ltb-false (6554261109157969 * 1 * down e) (m * up e * 2 ^ 43) h) (lit≤ tt)

-- neither too large nor too small
pub within_range : (x : Float) (hx s : ℕ) → is_nan x ≡ false → Split x hx s → hx < 0x7ff0_0000 → lt over_at x ≡ false → lt x under_at ≡ false → Within x 746 1
unfolding is_nan to_bits
within_range nan hx s n p h o u = absurd (true≢false n)
within_range (inf true) hx s n p h o u = absurd (omega (arith, p.word))
within_range (inf false) hx s n p h o u = absurd (omega (arith, p.word))
within_range (fin false m e) hx s n p h o u = over_bound m e o
within_range (fin true m e) hx s n p h o u = under_bound m e u

-- ---- the sign bit

pub above_zero : (x : Float) (hx s : ℕ) → T (fits binary64 x) → Split x hx s → Within x 746 1 → s ≡ 0 → Sized false x
above_zero nan hx s f p w z = absurd w
above_zero (inf t) hx s f p w z = absurd w
above_zero (fin false m e) hx s f p w z = (refl, w)
above_zero (fin true m e) hx s f p w z = absurd (omega (arith, p.sign, (own true m e f).sign, z))

pub below_zero : (x : Float) (hx s : ℕ) → T (fits binary64 x) → Split x hx s → Within x 746 1 → (s ≡ 0 → ⊥) → Sized true x × (s ≡ 1)
below_zero nan hx s f p w z = absurd w
below_zero (inf t) hx s f p w z = absurd w
below_zero (fin false m e) hx s f p w z = absurd (z (p.sign ∙ (own false m e f).sign))
below_zero (fin true m e) hx s f p w z = ((refl, w), p.sign ∙ (own true m e f).sign)
