-- Where q is nearest to the root of n, q * 2 ^ a is nearer to the root of n * 2 ^ a * 2 ^ a than any other number of 53 digits times a power of two
-- (`nearer_than_below`, `nearer_than_above`). Nothing here is about floats. Assumes nothing.
use Rattle.std.proofs.Common.{◌≡◌, ℕ, ◌+◌, ◌-◌, ◌*◌, ◌^◌, ◌<◌, ◌≤◌, ◌⊎◌, sym, ap, ◌∙◌, subst, inl, inr, le_trans, le_of_eq, lt_of_lt_of_le, lt_of_le_of_lt, le_of_lt, lt_irrefl, mul-le-mul_right, mul_assoc, mul-le-mul, lt_of_mul-lt-mul_right, eq-or-lt_of_le, mul-le-mul_left, mul-lt-mul_of_pos_right, mul-pos, sub-add_cancel, arith, pow_pos, pow_mono, pow-add, shl_lt}
use native.Mathlib.Nat.{mul-mul-mul_comm}
use Rattle.rounding.proofs.Choose.{le_or_lt}
use Rattle.root.specs.Steps.{RoundsTo}
use Rattle.root.proofs.WholeRoot.{odd_square, next_square}

sq_lt : {a b : ℕ} → a < b → a * a < b * b
sq_lt {a} {b} h = lt_of_le_of_lt (mul-le-mul_left a (le_of_lt h)) (mul-lt-mul_of_pos_right h (pos a b h))
  where
    pos : (a b : ℕ) → a < b → 0 < b
    pos a b h = omega arith

-- (p + 1/2) ^ 2 < n, where p + 1 is nearest to n's root
half_below : (n p : ℕ) → RoundsTo n (p + 1) → (p * 2 + 1) * (p * 2 + 1) < 4 * n
half_below n p h = go n (p * p) ((p + 1) * (p + 1)) ((p * 2 + 1) * (p * 2 + 1)) p h.0 (next_square p) (odd_square p)
  where
    go : (n P S O p : ℕ) → S < n + (p + 1) → S ≡ P + (2 * p + 1) → O ≡ 4 * P + (4 * p + 1) → O < 4 * n
    go n P S O p h e f = omega arith

half_above : (n q : ℕ) → RoundsTo n q → 4 * n < (q * 2 + 1) * (q * 2 + 1)
half_above n q h = go n (q * q) ((q * 2 + 1) * (q * 2 + 1)) q h.1 (odd_square q)
  where
    go : (n S O q : ℕ) → n ≤ S + q → O ≡ 4 * S + (4 * q + 1) → 4 * n < O
    go n S O q h e = omega arith

times_u : (a u : ℕ) → a * u * (a * u) ≡ a * a * (u * u)
times_u a u = mul-mul-mul_comm a u a u

-- y is at most p * u, or at least (q + 1) * u
below_grid : (n p u y : ℕ) → 0 < u → RoundsTo n (p + 1) → y ≤ p * u → (y + (p + 1) * u) * (y + (p + 1) * u) < 4 * n * (u * u)
below_grid n p u y U h k =
    let t : y + (p + 1) * u ≤ (p * 2 + 1) * u = go (p * u) y u ((p + 1) * u) ((p * 2 + 1) * u) k (omega arith) (omega arith) in
    lt_of_le_of_lt (mul-le-mul t t)
    (lt_of_le_of_lt (le_of_eq (times_u (p * 2 + 1) u)) (mul-lt-mul_of_pos_right (half_below n p h) (mul-pos U U)))
  where
    go : (P y u A B : ℕ) → y ≤ P → A ≡ P + u → B ≡ 2 * P + u → y + A ≤ B
    go P y u A B h e f = omega arith

above_grid : (n q u y : ℕ) → 0 < u → RoundsTo n q → (q + 1) * u ≤ y → 4 * n * (u * u) < (y + q * u) * (y + q * u)
above_grid n q u y U h k =
    let t : (q * 2 + 1) * u ≤ y + q * u = go (q * u) y u ((q + 1) * u) ((q * 2 + 1) * u) k (omega arith) (omega arith) in
    lt_of_lt_of_le (mul-lt-mul_of_pos_right (half_above n q h) (mul-pos U U)) (le_trans (le_of_eq (sym (times_u (q * 2 + 1) u))) (mul-le-mul t t))
  where
    go : (P y u A B : ℕ) → A ≤ y → A ≡ P + u → B ≡ 2 * P + u → B ≤ y + P
    go P y u A B h e f = omega arith

-- a number of 53 digits is a multiple of 2 ^ a, or below 2 ^ 52 * 2 ^ a
abbrev Multiple : ℕ → ℕ → Type 0
Multiple y a = (k : ℕ) × (y ≡ k * 2 ^ a)

grid_or_low : (m g a : ℕ) → m < 2 ^ 53 → Multiple (m * 2 ^ g) a ⊎ (m * 2 ^ g < 2 ^ 52 * 2 ^ a)
grid_or_low m g a h = elim (le_or_lt a g) [
  | inl k ↦ inl (m * 2 ^ (g - a), ap (λ (x : ℕ). m * x) (ap (λ (i : ℕ). 2 ^ i) (sym (sub-add_cancel k)) ∙ pow-add 2 (g - a) a) ∙ sym (mul_assoc m (2 ^ (g - a)) (2 ^ a)))
  | inr k ↦ inr (lt_of_lt_of_le (shl_lt 53 g h) (le_trans (pow_mono (more g a k)) (le_of_eq (pow-add 2 52 a))))
]
  where
    more : (g a : ℕ) → g < a → 53 + g ≤ 52 + a
    more g a h = omega arith

-- r = (p + 1) * 2 ^ a, and y is another number of 53 digits
pub nearer_than_below : (n p a m g : ℕ) → 2 ^ 104 ≤ n → 2 ^ 52 ≤ p + 1 → m < 2 ^ 53 → RoundsTo n (p + 1) → m * 2 ^ g < (p + 1) * 2 ^ a
    → (m * 2 ^ g + (p + 1) * 2 ^ a) * (m * 2 ^ g + (p + 1) * 2 ^ a) < 4 * n * (2 ^ a * 2 ^ a)
nearer_than_below n p a m g N P M h l = elim (grid_or_low m g a M) [
  | inl w ↦ below_grid n p (2 ^ a) (m * 2 ^ g) (pow_pos a) h (le_trans (le_of_eq w.1) (mul-le-mul_right (2 ^ a) (within w.0 p (lt_of_mul-lt-mul_right (2 ^ a) (subst (λ (x : ℕ). x < (p + 1) * 2 ^ a) w.1 l)))))
  | inr w ↦ elim (eq-or-lt_of_le P) [
    | inl e ↦ at_power e
    | inr k ↦ below_grid n p (2 ^ a) (m * 2 ^ g) (pow_pos a) h (le_trans (le_of_lt w) (mul-le-mul_right (2 ^ a) (within (2 ^ 52) p k)))
  ]
]
  where
    within : (k p : ℕ) → k < p + 1 → k ≤ p
    within k p h = omega arith

    at_power : 2 ^ 52 ≡ p + 1 → (m * 2 ^ g + (p + 1) * 2 ^ a) * (m * 2 ^ g + (p + 1) * 2 ^ a) < 4 * n * (2 ^ a * 2 ^ a)
    at_power e =
        lt_of_lt_of_le (sq_lt (twice (m * 2 ^ g) ((p + 1) * 2 ^ a) l))
        (le_trans (le_of_eq (mul-mul-mul_comm 2 ((p + 1) * 2 ^ a) 2 ((p + 1) * 2 ^ a) ∙ ap (λ (x : ℕ). 4 * x) (times_u (p + 1) (2 ^ a)) ∙ sym (mul_assoc 4 ((p + 1) * (p + 1)) (2 ^ a * 2 ^ a))))
        (mul-le-mul_right (2 ^ a * 2 ^ a) (mul-le-mul_left 4 (subst (λ (x : ℕ). x * x ≤ n) e N))))
      where
        twice : (y r : ℕ) → y < r → y + r < 2 * r
        twice y r h = omega arith

pub nearer_than_above : (n q a m g : ℕ) → 2 ^ 52 ≤ q → m < 2 ^ 53 → RoundsTo n q → q * 2 ^ a < m * 2 ^ g
    → 4 * n * (2 ^ a * 2 ^ a) < (m * 2 ^ g + q * 2 ^ a) * (m * 2 ^ g + q * 2 ^ a)
nearer_than_above n q a m g Q M h l = elim (grid_or_low m g a M) [
  | inl w ↦ above_grid n q (2 ^ a) (m * 2 ^ g) (pow_pos a) h (le_trans (mul-le-mul_right (2 ^ a) (next q w.0 (lt_of_mul-lt-mul_right (2 ^ a) (subst (λ (x : ℕ). q * 2 ^ a < x) w.1 l)))) (le_of_eq (sym w.1)))
  | inr w ↦ absurd (lt_irrefl (q * 2 ^ a) (lt_of_lt_of_le (lt_of_lt_of_le l (le_of_lt w)) (mul-le-mul_right (2 ^ a) Q)))
]
  where
    next : (q k : ℕ) → q < k → q + 1 ≤ k
    next q k h = omega arith
