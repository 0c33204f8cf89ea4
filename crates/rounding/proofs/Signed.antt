-- Numbers with a sign: ±a ≤ ±b for whole numbers a and b, what `le` of two finite numbers says in these terms, and what it says beside zero. Assumes nothing.
use mathlib.Core.Path.{◌≡◌, sym, ap, ◌∙◌, subst, subst₂}
use mathlib.Core.Logic.{inl, inr}
use mathlib.Core.Bool.{Bool, true, false, ◌&&◌, ◌||◌, or-true, true≢false, false≢true}
use Prim.Native.Nat.{ℕ, ◌+◌, ◌*◌, ◌≤◌, ◌<◌, zero-le}
use native.Mathlib.Nat.{eq-or-lt_of_le, eq-zero-or-pos, mul-pos, mul-le-mul_left, mul-le-mul_right, le_of_mul-le-mul_right}
use native.Mathlib.Omega.{arith}
use mir.Facts.{or_yes}
use borrow.Author.Tests.{lt-ltb, eq-eqb}
use lib.IntN.{ℤ}
use lib.Dec.{T, ltb, eqb, ltb→lt, lt→ltb, eqb→eq}
use lib.Ieee.{Float, nan, inf, fin, up, down, below, level, lt, le, of_bits}
use lib.Ieee.Exact.{HasValue}
use lib.Ieee.Fits.{up_pos, down_pos, and_l, and_r}
use lib.Ieee.Positive.{positive, first_pos}
use lib.Ieee.Scale.{finite}
use Rattle.number.specs.Number.{zero⁺}
use Rattle.rounding.specs.Signed.{Signed, plus_part, minus_part, AtMost}

-- ---- whole numbers with a sign

-- what ±(a c) has above zero is c times what ±a has
pub plus_scale : (s : Bool) (a c : ℕ) → plus_part s (a * c) ≡ plus_part s a * c
plus_scale true a c = omega arith
plus_scale false a c = omega arith

-- and so below zero
pub minus_scale : (s : Bool) (a c : ℕ) → minus_part s (a * c) ≡ minus_part s a * c
minus_scale true a c = omega arith
minus_scale false a c = omega arith

scaled : (s : Bool) (a : ℕ) (t : Bool) (b c : ℕ) → AtMost s a t b → AtMost s (a * c) t (b * c)
scaled s a t b c h = rw (plus_scale s a c, minus_scale t b c, plus_scale t b c, minus_scale s a c) (go (plus_part s a) (minus_part t b) (plus_part t b) (minus_part s a) h)
  where
    go : (p n q m : ℕ) → p + n ≤ q + m → p * c + n * c ≤ q * c + m * c
    go p n q m h = omega (arith, mul-le-mul_right c h)

unscaled : (s : Bool) (a : ℕ) (t : Bool) (b c : ℕ) → 0 < c → AtMost s (a * c) t (b * c) → AtMost s a t b
unscaled s a t b c C h = go (plus_part s a) (minus_part t b) (plus_part t b) (minus_part s a) (rw (plus_scale s a c, minus_scale t b c, plus_scale t b c, minus_scale s a c) at h)
  where
    go : (p n q m : ℕ) → p * c + n * c ≤ q * c + m * c → p + n ≤ q + m
    go p n q m h = le_of_mul-le-mul_right {k = c} (omega (arith, h)) C

-- x / d is a / u and y / d is b / u
same_order : (s t : Bool) (x y a b u d : ℕ) → 0 < d → x * u ≡ a * d → y * u ≡ b * d → AtMost s x t y → AtMost s a t b
same_order s t x y a b u d D p q h = unscaled s a t b d D (subst₂ (λ (v w : ℕ). AtMost s v t w) p q (scaled s x t y u h))

-- ---- the tests by which `le` compares two finite numbers

-- they pass only where ±a ≤ ±b
pub tests→at_most : (s : Bool) (a : ℕ) (t : Bool) (b : ℕ) → T (below s a t b || level s a t b) → AtMost s a t b
tests→at_most true a true b h = elim (or_yes (ltb b a) (eqb a b && true) h) [
  | inl u ↦ omega (arith, ltb→lt b a u)
  | inr u ↦ omega (arith, eqb→eq a b (and_l (eqb a b) true u))
]
tests→at_most true a false b h = zero-le
tests→at_most false a true b h = omega (arith, eqb→eq a b (and_l (eqb a b) (eqb a 0) h), eqb→eq a 0 (and_r (eqb a b) (eqb a 0) h))
tests→at_most false a false b h = elim (or_yes (ltb a b) (eqb a b && true) h) [
  | inl u ↦ omega (arith, ltb→lt a b u)
  | inr u ↦ omega (arith, eqb→eq a b (and_l (eqb a b) true u))
]

-- and wherever ±a ≤ ±b
pub at_most→tests : (s : Bool) (a : ℕ) (t : Bool) (b : ℕ) → AtMost s a t b → T (below s a t b || level s a t b)
at_most→tests true a true b h = elim (eq-or-lt_of_le {n = b} {m = a} (omega arith)) [
  | inl e ↦ rw (eq-eqb a b (sym e), or-true (ltb b a)) tt
  | inr l ↦ rw (lt-ltb b a l) tt
]
at_most→tests true a false b h = elim (eq-zero-or-pos (a + b)) [
  | inl e ↦ rw (eq-eqb a b (omega arith), eq-eqb a 0 (omega arith), or-true (ltb 0 (a + b))) tt
  | inr l ↦ rw (lt-ltb 0 (a + b) l) tt
]
at_most→tests false a true b h = rw (eq-eqb a b (omega arith), eq-eqb a 0 (omega arith)) tt
at_most→tests false a false b h = elim (eq-or-lt_of_le {n = a} {m = b} (omega arith)) [
  | inl e ↦ rw (eq-eqb a b e, or-true (ltb a b)) tt
  | inr l ↦ rw (lt-ltb a b l) tt
]

-- with both signs clear: a ≤ b
pub plain_tests : (a b : ℕ) → T (below false a false b || level false a false b) → a ≤ b
plain_tests a b h = omega (arith, tests→at_most false a false b h)

-- ---- `le` of finite numbers

-- x / d is a / u, and y / e is b / u: each over the common denominator d e
pub over_left : (x d a e u : ℕ) → x * u ≡ a * d → x * e * u ≡ a * (d * e)
over_left x d a e u h = omega (arith, ap (λ (z : ℕ). z * e) h)

pub over_right : (y e b d u : ℕ) → y * u ≡ b * e → y * d * u ≡ b * (d * e)
over_right y e b d u h = omega (arith, ap (λ (z : ℕ). z * d) h)

-- x is ±a / u and y is ±b / u: x ≤ y says that ±a ≤ ±b
pub le→at_most : (x y : Float) (s t : Bool) (a b u : ℕ) → 0 < u → HasValue x s a u → HasValue y t b u → T (le x y) → AtMost s a t b
unfolding le
le→at_most nan y s t a b u U h k l = absurd h
le→at_most (inf r) y s t a b u U h k l = absurd h
le→at_most (fin r m e) nan s t a b u U h k l = absurd k
le→at_most (fin r m e) (inf w) s t a b u U h k l = absurd k
le→at_most (fin r m e) (fin w n d) s t a b u U h k l =
    subst₂ (λ (v w : Bool). AtMost v a w b) h.0 k.0
    (same_order r w (m * up e * down d) (n * up d * down e) a b u (down e * down d) (mul-pos (down_pos e) (down_pos d)) (over_left (m * up e) (down e) a (down d) u h.1) (over_right (n * up d) (down d) b (down e) u k.1)
    (tests→at_most r (m * up e * down d) w (n * up d * down e) l))

-- and the other way round
pub at_most→le : (x y : Float) (s t : Bool) (a b u : ℕ) → 0 < u → HasValue x s a u → HasValue y t b u → AtMost s a t b → T (le x y)
unfolding le
at_most→le nan y s t a b u U h k l = absurd h
at_most→le (inf r) y s t a b u U h k l = absurd h
at_most→le (fin r m e) nan s t a b u U h k l = absurd k
at_most→le (fin r m e) (inf w) s t a b u U h k l = absurd k
at_most→le (fin r m e) (fin w n d) s t a b u U h k l =
    at_most→tests r (m * up e * down d) w (n * up d * down e)
    (same_order r w a b (m * up e * down d) (n * up d * down e) (down e * down d) u U (sym (over_left (m * up e) (down e) a (down d) u h.1)) (sym (over_right (n * up d) (down d) b (down e) u k.1))
    (subst₂ (λ (v w : Bool). AtMost v a w b) (sym h.0) (sym k.0) l))

-- with both signs clear: a ≤ b
pub le→units : (x y : Float) (a b u : ℕ) → 0 < u → HasValue x false a u → HasValue y false b u → T (le x y) → a ≤ b
le→units x y a b u U h k l = omega (arith, le→at_most x y false false a b u U h k l)

-- ---- beside zero

-- +0 ≤ ±m 2 ^ e says that the sign is clear or m is zero
pub sign_of_nonneg : (s : Bool) (m : ℕ) (e : ℤ) → T (le zero⁺ (fin s m e)) → T s → m ≡ 0
unfolding le of_bits
sign_of_nonneg false m e h t = absurd t
sign_of_nonneg true m e h t = go (up e) (down e) (up_pos e) (tests→at_most false (0 * down e) true (m * up e * 1) h)
  where
    go : (u d : ℕ) → 0 < u → 0 * d + m * u * 1 ≤ 0 + 0 → m ≡ 0
    go u d U h = omega (arith, mul-le-mul_left m U)

-- and the other way round
pub nonneg_of_sign : (s : Bool) (m : ℕ) (e : ℤ) → (T s → m ≡ 0) → T (le zero⁺ (fin s m e))
unfolding le of_bits
nonneg_of_sign true m e h = at_most→tests false (0 * down e) true (m * up e * 1) (go (down e) (up e) (h tt))
  where
    go : (d u : ℕ) → m ≡ 0 → 0 * d + m * u * 1 ≤ 0 + 0
    go d u z = omega (arith, ap (λ (x : ℕ). x * u) z)
nonneg_of_sign false m e h = at_most→tests false (0 * down e) false (m * up e * 1) (go (down e) (m * up e * 1))
  where
    go : (d x : ℕ) → 0 * d + 0 ≤ x + 0
    go d x = omega arith

-- zero times u d is zero
pub zero_times : (m u d : ℕ) → m ≡ 0 → m * u * d ≡ 0
zero_times m u d e = ap (λ (z : ℕ). z * u * d) e ∙ omega arith

-- a finite x with +0 < x is what the kit calls positive
pub positive_of_lt : (x : Float) → T (finite x) → T (lt zero⁺ x) → T (positive x)
unfolding lt of_bits
positive_of_lt nan t h = absurd t
positive_of_lt (inf s) t h = absurd t
positive_of_lt (fin true m e) t h = absurd h
positive_of_lt (fin false m e) t h = lt→ltb 0 m (first_pos m (up e) (go (down e) (m * up e) (ltb→lt (0 * down e) (m * up e * 1) h)))
  where
    go : (d x : ℕ) → 0 * d < x * 1 → 0 < x
    go d x h = omega arith

-- what has the sign minus is at most +0
pub minus_le_zero : (x : Float) → Signed true x → T (le x zero⁺)
unfolding le of_bits
minus_le_zero nan h = absurd h
minus_le_zero (inf true) h = tt
minus_le_zero (inf false) h = absurd (false≢true h)
minus_le_zero (fin true m e) h = at_most→tests true (m * up e * 1) false (0 * down e) zero-le
minus_le_zero (fin false m e) h = absurd (false≢true h)

-- what has the sign plus is at least +0
pub zero_le_plus : (x : Float) → Signed false x → T (le zero⁺ x)
zero_le_plus nan h = absurd h
zero_le_plus (inf true) h = absurd (true≢false h)
zero_le_plus (inf false) h = unfold le of_bits in tt
zero_le_plus (fin s m e) h = nonneg_of_sign s m e (λ (t : T s). absurd (subst T h t))
