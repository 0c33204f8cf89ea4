-- The exponential's argument, reduced: for |x| ≤ 746, n the whole part of x / ln 2 + 1/2, as computed: x - n * ln2HI is at most 3/8 in size.
-- Whole numbers only. Assumes nothing.
use mathlib.Core.Path.{◌≡◌, sym, ap, ◌∙◌, subst}
use Prim.Native.Nat.{ℕ, zero, suc, ◌+◌, ◌*◌, ◌^◌, ◌≤◌, ◌<◌}
use native.Mathlib.Nat.{le_trans, le_of_eq, lt_of_lt_of_le, lt_of_le_of_lt, lt_of_not-le, lt_irrefl, mul-le-mul_right, mul-le-mul_left, mul-lt-mul_of_pos_right, mul-one, mul_assoc, mul_comm, mul_right_comm, lt_of_mul-lt-mul_right, zero-mul, suc-mul}
use native.Mathlib.Numerals.{add-one}
use native.Mathlib.Omega.{arith}
use lib.Dec.{lit<, lit≤}
use Rattle.rounding.proofs.Rounded.{Rounded, exact_small}

-- ---- whole numbers: I / 2 ^ 51 is the factor 1 / ln 2 of the table, x is X / D, the product P / E, the sum G / F, and n the whole part of G / F

unfoldable pub I : ℕ
I = 0xB_8AA3_B295_C17F

-- 2 * p < (2 * n + 1) * e
upper_1 : (n P E G F : ℕ) → n < 2000 → Rounded (P * 2 + E) (E * 2) G F → G < (n + 1) * F → P * 2 < (2 * n + 1) * E
upper_1 n P E G F N r h =
    lt_of_not-le
    (λ (g : (2 * n + 1) * E ≤ P * 2).
    let over = go (n * E) E P ((2 * n + 1) * E) ((n + 1) * (E * 2)) g (omega arith) (omega arith) in
    let least = r.at_least (n + 1) 1 (lit< tt) (exact_small (n + 1) 0 (small n N) (lit≤ tt)) over in
    lt_irrefl G (lt_of_lt_of_le h (le_trans least (le_of_eq (mul-one G)))))
  where
    small : (n : ℕ) → n < 2000 → n + 1 < 2 ^ 53
    small n h = omega arith

    go : (w E P A B : ℕ) → A ≤ P * 2 → A ≡ 2 * w + E → B ≡ w * 2 + E * 2 → B ≤ (P * 2 + E) * 1
    go w E P A B h e f = omega arith

upper_2 : (n X D P E : ℕ) → n < 2000 → Rounded (I * X) (2 ^ 51 * D) P E → P * 2 < (2 * n + 1) * E → I * X * 2 < (2 * n + 1) * (2 ^ 51 * D)
upper_2 n X D P E N r h = lt_of_not-le (λ (g : (2 * n + 1) * (2 ^ 51 * D) ≤ I * X * 2). lt_irrefl (P * 2) (lt_of_lt_of_le h (r.at_least (2 * n + 1) 2 (lit< tt) (exact_small (2 * n + 1) 1 (small n N) (lit≤ tt)) g)))
  where
    small : (n : ℕ) → n < 2000 → 2 * n + 1 < 2 ^ 53
    small n h = omega arith

-- from below: n is k + 1
lower_1 : (k P E G F : ℕ) → k < 2000 → Rounded (P * 2 + E) (E * 2) G F → (k + 1) * F ≤ G → (1024 * k + 1023) * (E * 2) < (P * 2 + E) * 1024
lower_1 k P E G F N r h =
    lt_of_not-le (λ (g : (P * 2 + E) * 1024 ≤ (1024 * k + 1023) * (E * 2)).
    no (k * F) F G ((k + 1) * F) ((1024 * k + 1023) * F) r.above_zero h (omega arith) (omega arith) (r.at_most (1024 * k + 1023) 1024 (lit< tt) (exact_small (1024 * k + 1023) 10 (small k N) (lit≤ tt)) g))
  where
    small : (k : ℕ) → k < 2000 → 1024 * k + 1023 < 2 ^ 53
    small k h = omega arith

    no : (w F G A B : ℕ) → 0 < F → A ≤ G → A ≡ w + F → B ≡ 1024 * w + 1023 * F → G * 1024 ≤ B → ⊥
    no w F G A B z a b c d = omega arith

lower_2 : (k X D P E : ℕ) → k < 2000 → Rounded (I * X) (2 ^ 51 * D) P E → (1024 * k + 1023) * (E * 2) < (P * 2 + E) * 1024 → (1024 * k + 510) * (2 ^ 51 * D) < I * X * 1024
lower_2 k X D P E N r h =
    lt_of_not-le (λ (g : I * X * 1024 ≤ (1024 * k + 510) * (2 ^ 51 * D)).
    no (k * E) E P ((1024 * k + 1023) * (E * 2)) ((1024 * k + 510) * E) r.above_zero h (omega arith) (omega arith) (r.at_most (1024 * k + 510) 1024 (lit< tt) (exact_small (1024 * k + 510) 10 (small k N) (lit≤ tt)) g))
  where
    small : (k : ℕ) → k < 2000 → 1024 * k + 510 < 2 ^ 53
    small k h = omega arith

    no : (w E P A B : ℕ) → 0 < E → A < (P * 2 + E) * 1024 → A ≡ 2048 * w + 2046 * E → B ≡ 1024 * w + 510 * E → P * 1024 ≤ B → ⊥
    no w E P A B z a b c d = omega arith

-- ---- the constants by short decimal fractions: 0.693147 < 2 ^ 51 / I < 0.693148, and the same for the table's ln2HI, H / 2 ^ 32

unfoldable pub H : ℕ
H = 0xB172_17F7

i_low : 693147 * I ≤ 1000000 * 2 ^ 51
unfolding I
i_low = lit≤ tt

i_high : 1000000 * 2 ^ 51 ≤ 693148 * I
unfolding I
i_high = lit≤ tt

-- a * D * 2 ^ 51 million, in two orders
shuffle : (a D : ℕ) → a * (2 ^ 51 * D) * 1000000 ≡ a * D * (1000000 * 2 ^ 51)
shuffle a D = omega arith

-- 2 * X * 10 ^ 6 < (2 * n + 1) * 693148 * D
upper_3 : (a X D : ℕ) → I * X * 2 < a * (2 ^ 51 * D) → X * 2000000 < a * D * 693148
upper_3 a X D h =
    lt_of_mul-lt-mul_right I
    (lt_of_le_of_lt (le_of_eq (mul_right_comm X 2000000 I ∙ ap (λ (z : ℕ). z * 2000000) (mul_comm X I) ∙ sym (mul_assoc (I * X) 2 1000000)))
    (lt_of_lt_of_le (mul-lt-mul_of_pos_right h (lit< tt))
    (le_trans (le_of_eq (shuffle a D)) (le_trans (mul-le-mul_left (a * D) i_high) (le_of_eq (sym (mul_assoc (a * D) 693148 I)))))))

lower_3 : (a X D : ℕ) → a * (2 ^ 51 * D) < I * X * 1024 → a * D * 693147 < X * 1024000000
lower_3 a X D h =
    lt_of_mul-lt-mul_right I
    (lt_of_le_of_lt (le_trans (le_of_eq (mul_assoc (a * D) 693147 I)) (le_trans (mul-le-mul_left (a * D) i_low) (le_of_eq (sym (shuffle a D)))))
    (lt_of_lt_of_le (mul-lt-mul_of_pos_right h (lit< tt))
    (le_of_eq (mul_assoc (I * X) 1024 1000000 ∙ sym (mul_right_comm X 1024000000 I ∙ ap (λ (z : ℕ). z * 1024000000) (mul_comm X I))))))

-- |X / D - n * H / 2 ^ 32| ≤ 3 / 8
pub record SmallRest (n X D : ℕ) : Type 0 where
  pub not_above : X * 2 ^ 32 * 8 ≤ n * H * D * 8 + 3 * (D * 2 ^ 32)
  pub not_below_lem : n * H * D * 8 ≤ X * 2 ^ 32 * 8 + 3 * (D * 2 ^ 32)

-- w is n * D
above_1 : (w X D : ℕ) → w ≤ 1120 * D → X * 2000000 < (2 * w + D) * 693148 → X * 8000000 ≤ w * 693147 * 8 + 3000000 * D
above_1 w X D l h = omega arith

above_2 : (w X D : ℕ) → X * 8000000 ≤ w * 693147 * 8 + 3000000 * D → X * 2 ^ 32 * 8 ≤ w * H * 8 + 3 * (D * 2 ^ 32)
unfolding H
above_2 w X D h = omega arith

below_1 : (v w X D : ℕ) → w ≡ v + D → w ≤ 1120 * D → (1024 * v + 510 * D) * 693147 < X * 1024000000 → w * 693148 * 8 ≤ X * 8000000 + 3000000 * D
below_1 v w X D e l h = omega arith

below_2 : (w X D : ℕ) → w * 693148 * 8 ≤ X * 8000000 + 3000000 * D → w * H * 8 ≤ X * 2 ^ 32 * 8 + 3 * (D * 2 ^ 32)
unfolding H
below_2 w X D h = omega arith

rest_above : (n X D P E G F : ℕ) → n ≤ 1120 → Rounded (I * X) (2 ^ 51 * D) P E → Rounded (P * 2 + E) (E * 2) G F → G < (n + 1) * F → X * 2 ^ 32 * 8 ≤ n * H * D * 8 + 3 * (D * 2 ^ 32)
rest_above n X D P E G F N r t h =
    let s = upper_3 (2 * n + 1) X D (upper_2 n X D P E (less n N) r (upper_1 n P E G F (less n N) t h)) in
    le_trans (above_2 (n * D) X D (above_1 (n * D) X D (mul-le-mul_right D N) (subst (λ (z : ℕ). X * 2000000 < z * 693148) (twice n D) s)))
    (le_of_eq (ap (λ (z : ℕ). z * 8 + 3 * (D * 2 ^ 32)) (mul_right_comm n D H)))
  where
    less : (n : ℕ) → n ≤ 1120 → n < 2000
    less n h = omega arith

    twice : (n d : ℕ) → (2 * n + 1) * d ≡ 2 * (n * d) + d
    twice n d = omega arith

rest_below : (n X D P E G F : ℕ) → n ≤ 1120 → Rounded (I * X) (2 ^ 51 * D) P E → Rounded (P * 2 + E) (E * 2) G F → n * F ≤ G → n * H * D * 8 ≤ X * 2 ^ 32 * 8 + 3 * (D * 2 ^ 32)
rest_below zero X D P E G F N r t h = none (0 * H) D (X * 2 ^ 32 * 8 + 3 * (D * 2 ^ 32)) (zero-mul H)
  where
    none : (a D b : ℕ) → a ≡ 0 → a * D * 8 ≤ b
    none a D b e = rw e (omega (arith, zero-mul D))
rest_below (suc k) X D P E G F N r t h =
    let s = lower_3 (1024 * k + 510) X D (lower_2 k X D P E (less k N) r (lower_1 k P E G F (less k N) t (subst (λ (z : ℕ). z * F ≤ G) (sym (add-one k)) h))) in
    le_trans (le_of_eq (ap (λ (z : ℕ). z * 8) (mul_right_comm (suc k) H D)))
    (below_2 (suc k * D) X D (below_1 (k * D) (suc k * D) X D (suc-mul k D) (mul-le-mul_right D N) (subst (λ (z : ℕ). z * 693147 < X * 1024000000) (split k D) s)))
  where
    less : (k : ℕ) → suc k ≤ 1120 → k < 2000
    less k h = omega arith

    split : (k f : ℕ) → (1024 * k + 510) * f ≡ 1024 * (k * f) + 510 * f
    split k f = omega arith

pub small_rest : (n X D P E G F : ℕ) → n ≤ 1120 → Rounded (I * X) (2 ^ 51 * D) P E → Rounded (P * 2 + E) (E * 2) G F → n * F ≤ G → G < (n + 1) * F → SmallRest n X D
small_rest n X D P E G F N r t l u = record { not_above = rest_above n X D P E G F N r t u; not_below_lem = rest_below n X D P E G F N r t l }
