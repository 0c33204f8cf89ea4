-- The number with the pattern that `root_pattern` gives is nearest to x's root (`scaled_nearest`). Assumes nothing.
use Rattle.std.proofs.Common.{◌≡◌, ℕ, suc, ◌+◌, ◌-◌, ◌*◌, ◌/◌, ◌%◌, ◌^◌, ◌<◌, ◌≤◌, false, sym, ap, ◌∙◌, subst, inl, inr, lt_of_lt_of_le, lt_of_le_of_lt, le_of_lt, mul-le-mul_right, mul_assoc, mul-le-mul_left, mul-pos, arith, lit<, pow_pos}
use lib.Ieee.{Float}
use lib.Ieee.Exact.{HasValue}
use lib.Ieee.Positive.{positive_of_value}
use Rattle.number.specs.Number.{float}
use Rattle.rounding.proofs.Choose.{le_or_lt}
use Rattle.rounding.proofs.Pattern.{units_at, bits_value, units_of_lem, digits}
use Rattle.root.specs.Root.{units_of, root_square, whole_root, root_pattern, NearestRoot}
use Rattle.root.specs.Steps.{RoundsTo}
use Rattle.root.proofs.WholeRoot.{whole_root_near}
use Rattle.root.proofs.Squares.{nearer_than_below, nearer_than_above}
use Rattle.root.proofs.Scaled.{Scaled, m_from, m_most, split, pattern_of_lem, four_pow}

-- ---- the root has 53 digits

at_least : (n q : ℕ) → 2 ^ 104 ≤ n → RoundsTo n q → 2 ^ 52 ≤ q
at_least n q h k = elim (le_or_lt (2 ^ 52) q) [
  | inl l ↦ l
  | inr l ↦ absurd (go n (q * q) q h k.1 l (mul-le-mul_right q (le_of_lt l)))
]
  where
    go : (n S q : ℕ) → 2 ^ 104 ≤ n → n ≤ S + q → q < 2 ^ 52 → S ≤ 2 ^ 52 * q → ⊥
    go n S q a b c d = omega arith

at_most : (n q : ℕ) → n ≤ (2 ^ 53 - 1) * 2 ^ 53 → RoundsTo n q → q < 2 ^ 53
at_most n q h k = elim (le_or_lt (2 ^ 53) q) [
  | inl l ↦ absurd (go n (q * q) q (2 ^ 53 * q) ((2 ^ 53 - 1) * q) ((2 ^ 53 - 1) * 2 ^ 53) h k.0 (mul-le-mul_right q l) (omega arith) (mul-le-mul_left (2 ^ 53 - 1) l))
  | inr l ↦ l
]
  where
    go : (n S q P A B : ℕ) → n ≤ B → S < n + q → P ≤ S → P ≡ A + q → B ≤ A → ⊥
    go n S q P A B a b c d e = omega arith

-- ---- the pattern of q * 2 ^ a units

scaled_value : (a q : ℕ) → a < 2000 → 2 ^ 52 ≤ q → q < 2 ^ 53 → HasValue (float (a * 2 ^ 52 + q)) false (q * 2 ^ a) (2 ^ 1074)
scaled_value a q h l u =
    let p : ℕ = a * 2 ^ 52 + q in
    subst (λ (z : ℕ). HasValue (float p) false z (2 ^ 1074))
    (ap (λ (i : ℕ). units_at i (p % 2 ^ 52)) field ∙ ap (λ (z : ℕ). z * 2 ^ a) below)
    (bits_value p in_range)
  where
    field : (a * 2 ^ 52 + q) / 2 ^ 52 ≡ suc a
    field = omega arith

    below : 2 ^ 52 + (a * 2 ^ 52 + q) % 2 ^ 52 ≡ q
    below = omega arith

    in_range : a * 2 ^ 52 + q < 0x7ff0_0000_0000_0000
    in_range = omega arith

-- ---- for an n of 105 or 106 digits: q is nearest to its root, and x's root is n's times 2 ^ a units

module _ (x : Float) (n a q : ℕ) (range : a < 2000) (lo : 2 ^ 104 ≤ n) (hi : n ≤ (2 ^ 53 - 1) * 2 ^ 53) (near : RoundsTo n q) (scale : root_square x ≡ n * (2 ^ a * 2 ^ a)) where
  q_lo : 2 ^ 52 ≤ q
  q_lo = at_least n q lo near

  value : HasValue (float (a * 2 ^ 52 + q)) false (q * 2 ^ a) (2 ^ 1074)
  value = scaled_value a q range q_lo (at_most n q hi near)

  r_units : units_of (float (a * 2 ^ 52 + q)) ≡ q * 2 ^ a
  r_units = units_of_lem (float (a * 2 ^ 52 + q)) (q * 2 ^ a) value

  four : 4 * root_square x ≡ 4 * n * (2 ^ a * 2 ^ a)
  four = ap (λ (z : ℕ). 4 * z) scale ∙ sym (mul_assoc 4 n (2 ^ a * 2 ^ a))

  -- the same with q as p + 1
  nearer_below : (m g : ℕ) → m < 2 ^ 53 → m * 2 ^ g < q * 2 ^ a → (m * 2 ^ g + q * 2 ^ a) * (m * 2 ^ g + q * 2 ^ a) < 4 * n * (2 ^ a * 2 ^ a)
  nearer_below m g M l =
      subst (λ (z : ℕ). (m * 2 ^ g + z * 2 ^ a) * (m * 2 ^ g + z * 2 ^ a) < 4 * n * (2 ^ a * 2 ^ a)) one_back
      (nearer_than_below n (q - 1) a m g lo (subst (λ (z : ℕ). 2 ^ 52 ≤ z) (sym one_back) q_lo) M (subst (λ (z : ℕ). RoundsTo n z) (sym one_back) near) (subst (λ (z : ℕ). m * 2 ^ g < z * 2 ^ a) (sym one_back) l))
    where
      one_back : q - 1 + 1 ≡ q
      one_back = omega (arith, q_lo)

  nearest : NearestRoot x (float (a * 2 ^ 52 + q))
  nearest = record {
    above_zero = positive_of_value (float (a * 2 ^ 52 + q)) (q * 2 ^ a) (2 ^ 1074) value (mul-pos (lt_of_lt_of_le (pow_pos 52) q_lo) (pow_pos a));
    below = λ y f p. let d = digits y f p in rw (r_units, d.units, four) (nearer_below d.m d.g d.m_lt);
    above = λ y f p. let d = digits y f p in rw (r_units, d.units, four) (nearer_than_above n q a d.m d.g q_lo d.m_lt near);
  }

pub scaled_nearest : (x : Float) (sig ex : ℕ) → Scaled (root_square x) sig ex → NearestRoot x (float (root_pattern (root_square x)))
scaled_nearest x sig ex s =
    let m : ℕ = sig * 2 ^ (ex % 2) in
    let k : ℕ = ex / 2 - 1 in
    let lo : 2 ^ 52 ≤ m = m_from sig ex s.from s.below s.some in
    let hi : m ≤ (2 ^ 53 - 1) * 2 ^ 1 = m_most sig ex s.from s.below s.some in
    subst (λ (z : ℕ). NearestRoot x (float z)) (sym (ap root_pattern s.is ∙ pattern_of_lem sig ex s.from s.below s.some))
    (nearest x (m * 2 ^ 52) k (whole_root (m * 2 ^ 52)) (omega (arith, s.most)) (mul-le-mul_right (2 ^ 52) lo) (mul-le-mul_right (2 ^ 52) hi)
    (whole_root_near m (lt_of_lt_of_le (pow_pos 52) lo) (lt_of_le_of_lt hi (lit< tt)))
    (s.is ∙ sym (split sig ex s.from s.below s.some) ∙ ap (λ (z : ℕ). m * 2 ^ 52 * z) (four_pow k)))
