-- What the tests `x > 0.0` and `x == 0.0` say of `root_of x`, and that the pattern of a number above zero is no NaN's. Assumes nothing.
use Rattle.std.proofs.Common.{◌≡◌, ℕ, zero, suc, ◌*◌, ◌<◌, ◌≤◌, Bool, true, false, not, ◌&&◌, ◌||◌, T, eqb, ◌⊎◌, sym, refl, ap, ◌∙◌, subst, inl, inr, true≢false, lt_of_lt_of_le, lt_irrefl, zero-lt-suc, mul-le-mul_left, mul-pos, arith, eqb→eq, lt→ltb, ltb-false, ltb-true, eq-eqb}
use mathlib.Core.Bool.{beq}
use lib.Ieee.{Float, nan, inf, fin, binary64, up, down, lt, eq, fits, is_nan, nan_bits, of_bits, to_bits}
use lib.Ieee.Bits.{nan_bits_is}
use lib.Ieee.Fits.{up_pos, and_l}
use lib.Ieee.Positive.{positive}
use Rattle.number.specs.Number.{zero⁺, pattern_of, float}
use Rattle.rounding.proofs.Pattern.{pattern}
use Rattle.root.specs.Root.{root_of}

-- ---- x > 0.0

above_zero : (x : Float) → lt zero⁺ x ≡ true → (x ≡ inf false) ⊎ T (positive x)
unfolding lt of_bits
above_zero nan h = absurd (true≢false (sym h))
above_zero (inf true) h = absurd (true≢false (sym h))
above_zero (inf false) h = inl refl
above_zero (fin true m e) h = absurd (true≢false (sym h))
above_zero (fin false zero e) h = absurd (no (up e) (down e) (ltb-true (0 * down e) (0 * up e * 1) h))
  where
    no : (u d : ℕ) → 0 * d < 0 * u * 1 → ⊥
    no u d h = omega arith
above_zero (fin false (suc m) e) h = inr (lt→ltb 0 (suc m) (zero-lt-suc m))

infinite_pattern : pattern_of (inf false) ≡ 0x7ff0_0000_0000_0000
unfolding to_bits
infinite_pattern = refl

-- below an infinity's pattern
pub finite_above : (x : Float) → lt zero⁺ x ≡ true → pattern_of x < 0x7ff0_0000_0000_0000 → T (positive x)
finite_above x h k = elim (above_zero x h) [ inl e ↦ absurd (lt_irrefl _ (subst (λ (n : ℕ). n < 0x7ff0_0000_0000_0000) (ap pattern_of e ∙ infinite_pattern) k)) | inr p ↦ p ]

-- and not below it
pub infinite_above : (x : Float) → T (fits binary64 x) → lt zero⁺ x ≡ true → 0x7ff0_0000_0000_0000 ≤ pattern_of x → x ≡ root_of x
unfolding root_of
infinite_above x f h k = elim (above_zero x h) [ inl e ↦ rw e refl | inr p ↦ absurd (lt_irrefl _ (lt_of_lt_of_le (pattern x f p).below k)) ]

-- ---- x == 0.0

some : (m u d : ℕ) → 0 < u → suc m * u * 1 ≡ 0 * d → ⊥
some m u d U h = let a = mul-le-mul_left (suc m) U in omega (arith, a, h)

pub is_zero : (x : Float) → eq x zero⁺ ≡ true → x ≡ root_of x
unfolding eq of_bits root_of
is_zero nan h = refl
is_zero (inf s) h = absurd (true≢false (sym h))
is_zero (fin s zero e) h = refl
is_zero (fin s (suc m) e) h = absurd (some m (up e) (down e) (up_pos e) (eqb→eq _ _ (and_l (eqb (suc m * up e * 1) (0 * down e)) (beq s false || eqb (suc m * up e * 1) 0) (subst T (sym h) tt))))

-- ---- neither

equal_zero : (b : Bool) (u d : ℕ) → (eqb (0 * u * 1) (0 * d) && (b || eqb (0 * u * 1) 0)) ≡ true
equal_zero true u d = rw (eq-eqb (0 * u * 1) (0 * d) (omega arith))
equal_zero false u d = rw (eq-eqb (0 * u * 1) (0 * d) (omega arith), eq-eqb (0 * u * 1) 0 (omega arith))

pub not_a_number : (x : Float) → lt zero⁺ x ≡ false → eq x zero⁺ ≡ false → nan ≡ root_of x
unfolding lt eq of_bits root_of
not_a_number nan h k = refl
not_a_number (inf true) h k = refl
not_a_number (inf false) h k = absurd (true≢false h)
not_a_number (fin true zero e) h k = absurd (true≢false (sym (equal_zero false (up e) (down e)) ∙ k))
not_a_number (fin false zero e) h k = absurd (true≢false (sym (equal_zero true (up e) (down e)) ∙ k))
not_a_number (fin true (suc m) e) h k = refl
not_a_number (fin false (suc m) e) h k = absurd (more (suc m * up e * 1) (down e) (ltb-false _ _ h) (mul-pos (mul-pos (zero-lt-suc m) (up_pos e)) (zero-lt-suc 0)))
  where
    more : (a d : ℕ) → a ≤ 0 * d → 0 < a → ⊥
    more a d h k = omega arith

-- ---- the pattern of a number above zero is no NaN's

pub positive_pattern : (n : ℕ) → T (positive (float n)) → T (not (nan_bits binary64 n))
unfolding is_nan
positive_pattern n p = subst (λ (b : Bool). T (not b)) (sym (nan_bits_is binary64 n ∙ no_nan (float n) p)) tt
  where
    no_nan : (x : Float) → T (positive x) → is_nan x ≡ false
    no_nan nan p = absurd p
    no_nan (inf s) p = absurd p
    no_nan (fin s m e) p = refl
