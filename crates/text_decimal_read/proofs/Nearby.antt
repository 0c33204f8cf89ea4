-- A fraction times 2 ^ 1088, cut to a whole number: its first digits, and whether the others are all zero, round as the fraction does.
-- Assumes nothing.
use mathlib.Core.Path.{◌≡◌, refl, sym, ap, ◌∙◌, subst}
use mathlib.Core.Bool.{Bool, not, ◌||◌}
use mathlib.Core.Logic.{inl, inr}
use Prim.Native.Nat.{ℕ, suc, ◌+◌, ◌-◌, ◌*◌, ◌/◌, ◌%◌, ◌^◌, ◌≤◌, ◌<◌}
use native.Mathlib.Nat.{le_trans, le_of_eq, lt_of_lt_of_le, mul-pos, div-div-eq-div-mul, div-add-mod', mod-lt, div-eq_of_lt, div-lt_iff_lt-mul, le-div_iff_mul-le}
use native.Mathlib.Omega.{arith}
use lib.Dec.{eqb}
use lib.Pow.{pow-add, pow_pos, pow_mono, shr_lt}
use lib.Ieee.{binary64, size, units, round}
use lib.Ieee.Digits.{size-le, size-lt, size_reaches}
use lib.Ieee.Fits.{round_is}
use lib.Ieee.Nearest.{closest, closest_same, div_same}
use Rattle.rounding.proofs.Choose.{le_or_lt}
use Rattle.text_limbs.specs.Remains.{halved_of, CutBy}
use Rattle.text_decimal_read.specs.Normal.{Normal}
use Rattle.text_limbs.proofs.Tens.{cut_more}
use Rattle.text_limbs.proofs.Halves.{halved_closest, halved_most, halved_least}
use Rattle.text_decimal_read.proofs.Patterns.{size_is}

size_zero : size 0 ≡ 0
unfolding size
size_zero = refl

-- j digits less
pub size_shift : (n j : ℕ) → size (n / 2 ^ j) ≡ size n - j
size_shift n j = elim (le_or_lt (size n) j) [
  | inl h ↦ ap size (div-eq_of_lt (lt_of_lt_of_le (size-lt n) (pow_mono h))) ∙ size_zero ∙ none (size n) h
  | inr h ↦
      size_is (n / 2 ^ j) (size n - suc j)
      ((le-div_iff_mul-le (pow_pos j)).1
      (le_trans (le_of_eq (sym (pow-add 2 (size n - suc j) j))) (size_reaches n (size n - suc j + j) (last (size n) h))))
      ((div-lt_iff_lt-mul (pow_pos j)).1 (lt_of_lt_of_le (size-lt n) (le_trans (pow_mono (all (size n) h)) (le_of_eq (pow-add 2 (suc (size n - suc j)) j)))))
      ∙ less (size n) h
]
  where
    none : (z : ℕ) → z ≤ j → 0 ≡ z - j
    none z h = omega arith

    last : (z : ℕ) → j < z → z - suc j + j < z
    last z h = omega arith

    all : (z : ℕ) → j < z → z ≤ suc (z - suc j) + j
    all z h = omega arith

    less : (z : ℕ) → j < z → suc (z - suc j) ≡ z - j
    less z h = omega arith

module _ (v k w : ℕ) (e : k ≡ size v - 67) (f : w ≡ v / 2 ^ (k + 13)) where
  few : w < 2 ^ 54
  few =
      subst (λ (z : ℕ). z < 2 ^ 54) (sym f)
      (shr_lt 54 (k + 13) (lt_of_lt_of_le (size-lt v) (pow_mono (cover (size v) k e))))
    where
      cover : (z k : ℕ) → k ≡ z - 67 → z ≤ 54 + (k + 13)
      cover z k e = omega arith

  pub normal : (rest : Bool) → Normal (halved_of w rest) k
  normal rest = record {
    most = halved_most w rest few;
    full =
        (λ (h : 0 < k).
        halved_least w (2 ^ 52) rest
        (subst (λ (z : ℕ). 2 ^ 53 ≤ z) (sym f)
        ((le-div_iff_mul-le (pow_pos (k + 13))).1
        (le_trans (le_of_eq (sym (pow-add 2 53 (k + 13)))) (size_reaches v (53 + (k + 13)) (last (size v) k e h))))));
  }
    where
      last : (z k : ℕ) → k ≡ z - 67 → 0 < k → 53 + (k + 13) < z
      last z k e h = omega arith

module _ (num den v k w : ℕ) (rest more : Bool) (D : 0 < den) (c : CutBy (num * 2 ^ 1088) den v rest) (e : k ≡ size v - 67) (f : w ≡ v / 2 ^ (k + 13)) (g : more ≡ not (eqb (v % 2 ^ (k + 13)) 0)) where
  -- as many digits are dropped
  dropped : size (num * 2 ^ 1074 / den) - 53 ≡ k
  dropped =
      ap (λ (z : ℕ). size z - 53)
      (div_same (num * 2 ^ 1074) den (num * 2 ^ 1088) (den * 2 ^ 14) D (mul-pos D (pow_pos 14)) (cross num den (2 ^ 1074) (2 ^ 1088) refl)
      ∙ sym (div-div-eq-div-mul (num * 2 ^ 1088) den (2 ^ 14))
      ∙ ap (λ (z : ℕ). z / 2 ^ 14) (sym c.whole))
      ∙ ap (λ (z : ℕ). z - 53) (size_shift v 14)
      ∙ both (size v)
      ∙ sym e
    where
      cross : (n d u t : ℕ) → t ≡ u * 2 ^ 14 → n * u * (d * 2 ^ 14) ≡ n * t * d
      cross n d u t e = let p = ap (λ (z : ℕ). n * z * d) e in omega (arith, p)

      both : (z : ℕ) → z - 14 - 53 ≡ z - 67
      both z = omega arith

  -- and the same number is kept
  kept : closest (num * 2 ^ 1074) (den * 2 ^ k) ≡ halved_of w (rest || more)
  kept =
      closest_same (num * 2 ^ 1074) (den * 2 ^ k) (num * 2 ^ 1088) (den * 2 ^ (k + 13) * 2) (mul-pos D (pow_pos k)) (mul-pos (mul-pos D (pow_pos (k + 13))) (two))
      (cross num den (2 ^ 1074) (2 ^ 1088) (2 ^ k) (2 ^ (k + 13)) refl (pow-add 2 k 13))
      ∙ halved_closest (num * 2 ^ 1088) (den * 2 ^ (k + 13)) w (rest || more) (mul-pos D (pow_pos (k + 13)))
      (subst (λ (b : Bool). CutBy (num * 2 ^ 1088) (den * 2 ^ (k + 13)) w (rest || b)) (sym g)
      (cut_more (num * 2 ^ 1088) den v w (2 ^ (k + 13)) (v % 2 ^ (k + 13)) rest D (pow_pos (k + 13)) c
      (sym (ap (λ (z : ℕ). z * 2 ^ (k + 13) + v % 2 ^ (k + 13)) f ∙ div-add-mod' v (2 ^ (k + 13)))) (mod-lt v (pow_pos (k + 13)))))
    where
      two : 0 < 2
      two = omega arith

      cross : (n d u t p q : ℕ) → t ≡ u * 2 ^ 14 → q ≡ p * 2 ^ 13 → n * u * (d * q * 2) ≡ n * t * (d * p)
      cross n d u t p q e f =
          let a = ap (λ (z : ℕ). n * z * (d * p)) e in
          let b = ap (λ (z : ℕ). n * u * (d * z * 2)) f in
          omega (arith, a, b)

  pub rounded_is : (s : Bool) → round binary64 s num den ≡ units binary64 s (halved_of w (rest || more)) k
  rounded_is s =
      round_is binary64 s num den
      ∙ ap (λ (z : ℕ). units binary64 s (closest (num * 2 ^ 1074) (den * 2 ^ z)) z) dropped
      ∙ ap (λ (z : ℕ). units binary64 s z k) kept

-- what `rounded` asks of the limbs
pub cut_fits : (v k : ℕ) → v < 2 ^ 2200 → k ≡ size v - 67 → (k + 13 < 2240) × (v / 2 ^ (k + 13) < 2 ^ 64)
cut_fits v k h e = (small (size v) k (size-le v 2200 h) e, lt_of_lt_of_le (few v k (v / 2 ^ (k + 13)) e refl) (pow_mono {i = 54} {j = 64} (omega arith)))
  where
    small : (z k : ℕ) → z ≤ 2200 → k ≡ z - 67 → k + 13 < 2240
    small z k h e = omega arith
