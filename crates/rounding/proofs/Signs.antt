-- Sums, products and quotients of numbers not below zero are not below zero, unless a NaN. A divisor has to be above zero: 1 / -0 is -∞. Assumes nothing.
-- That weights are not below zero is asked by demand 3 of the filter, a later request; Product uses the cases of infinity.
use mathlib.Core.Path.{◌≡◌, refl, ap, ◌∙◌}
use mathlib.Core.Bool.{Bool, true, false, not, cond}
use Prim.Native.Nat.{ℕ, ◌+◌, ◌*◌, ◌<◌}
use native.Mathlib.Nat.{mul-pos}
use native.Mathlib.Omega.{arith}
use borrow.Author.Tests.{eq-eqb}
use lib.IntN.{ℤ}
use lib.Dec.{T, eqb, ltb→lt}
use lib.Ieee.{Float, nan, inf, fin, Format, unlike, up, down, sum, add, mul, div, le, lt, is_nan, of_bits}
use lib.Ieee.Fits.{up_pos, down_pos}
use Rattle.number.specs.Number.{zero⁺}
use Rattle.rounding.specs.Signed.{plus_part, minus_part}
use Rattle.rounding.proofs.Signed.{sign_of_nonneg, zero_times, positive_of_lt}
use Rattle.rounding.proofs.Round.{round_nonneg}
use Rattle.rounding.proofs.Operations.{mul_finite, div_finite, unlike_clear, summed}

-- ---- sums

sum_nonneg : (f : Format) (s : Bool) (a : ℕ) (t : Bool) (b c : ℕ) → 0 < c → (T s → a ≡ 0) → (T t → b ≡ 0) → T (le zero⁺ (sum f s a t b c))
sum_nonneg f s a t b c C h k =
    let x = summed f s a t b c in
    rw x.is_round (round_nonneg f x.sign x.size c C (go x.sign x.size (minus_part s a) (minus_part t b) (plus_part s a + plus_part t b) (none s a h) (none t b k) x.is_sum))
  where
    none : (s : Bool) (a : ℕ) → (T s → a ≡ 0) → minus_part s a ≡ 0
    none true a h = h tt
    none false a h = omega arith

    go : (u : Bool) (n p q r : ℕ) → p ≡ 0 → q ≡ 0 → plus_part u n + (p + q) ≡ minus_part u n + r → T u → n ≡ 0
    go true n p q r a b e t = omega arith
    go false n p q r a b e t = absurd t

-- x, y ≥ 0 give x + y ≥ 0
pub add_nonneg : (f : Format) (x y : Float) → T (le zero⁺ x) → T (le zero⁺ y) → T (le zero⁺ (add f x y))
unfolding add le of_bits
add_nonneg f nan y h k = absurd h
add_nonneg f (inf s) nan h k = absurd k
add_nonneg f (inf true) (inf t) h k = absurd h
add_nonneg f (inf false) (inf true) h k = absurd k
add_nonneg f (inf false) (inf false) h k = h
add_nonneg f (inf s) (fin t n d) h k = h
add_nonneg f (fin s m e) nan h k = absurd k
add_nonneg f (fin s m e) (inf t) h k = k
add_nonneg f (fin s m e) (fin t n d) h k =
    sum_nonneg f s (m * up e * down d) t (n * up d * down e) (down e * down d) (mul-pos (down_pos e) (down_pos d))
    (λ u. zero_times m (up e) (down d) (sign_of_nonneg s m e h u)) (λ u. zero_times n (up d) (down e) (sign_of_nonneg t n d k u))

-- ---- products

-- the product of two sizes is zero if the signs differ and only a zero has its sign set
pub product_zero : (s t : Bool) (m n u v : ℕ) → (T s → m ≡ 0) → (T t → n ≡ 0) → T (unlike s t) → m * u * (n * v) ≡ 0
product_zero true t m n u v h k w = zero_times m u (n * v) (h tt)
product_zero false true m n u v h k w = ap (λ (z : ℕ). m * u * (z * v)) (k tt) ∙ omega arith
product_zero false false m n u v h k w = absurd w

-- ∞ times a number not below zero is ∞, unless a NaN
inf_times : (t : Bool) (n : ℕ) → (T t → n ≡ 0) → T (not (is_nan (cond (eqb n 0) nan (inf t)))) → cond (eqb n 0) nan (inf t) ≡ inf false
unfolding is_nan
inf_times true n k v = absurd (rw (eq-eqb n 0 (k tt)) at v)
inf_times false n k v = go (eqb n 0) v
  where
    go : (b : Bool) → T (not (is_nan (cond b nan (inf false)))) → cond b nan (inf false) ≡ inf false
    go true v = absurd v
    go false v = refl

-- ∞ y = ∞, for y ≥ 0 and unless a NaN
pub inf_mul : (f : Format) (y : Float) → T (le zero⁺ y) → T (not (is_nan (mul f (inf false) y))) → mul f (inf false) y ≡ inf false
unfolding mul le is_nan of_bits
inf_mul f nan k v = absurd v
inf_mul f (inf true) k v = absurd k
inf_mul f (inf false) k v = refl
inf_mul f (fin true n d) k v = inf_times true n (sign_of_nonneg true n d k) v
inf_mul f (fin false n d) k v = inf_times false n (sign_of_nonneg false n d k) v

-- x ∞ = ∞, for a finite x ≥ 0 and unless a NaN
pub mul_inf : (f : Format) (s : Bool) (m : ℕ) (e : ℤ) → T (le zero⁺ (fin s m e)) → T (not (is_nan (mul f (fin s m e) (inf false)))) → mul f (fin s m e) (inf false) ≡ inf false
unfolding mul
mul_inf f true m e h v = inf_times true m (sign_of_nonneg true m e h) v
mul_inf f false m e h v = inf_times false m (sign_of_nonneg false m e h) v

-- x, y ≥ 0 give x y ≥ 0, unless a NaN
pub mul_nonneg : (f : Format) (x y : Float) → T (le zero⁺ x) → T (le zero⁺ y) → T (not (is_nan (mul f x y))) → T (le zero⁺ (mul f x y))
unfolding le of_bits
mul_nonneg f nan y h k v = absurd h
mul_nonneg f (inf true) y h k v = absurd h
mul_nonneg f (inf false) y h k v = rw (inf_mul f y k v) h
mul_nonneg f (fin s m e) nan h k v = absurd k
mul_nonneg f (fin s m e) (inf true) h k v = absurd k
mul_nonneg f (fin s m e) (inf false) h k v = rw (mul_inf f s m e h v) k
mul_nonneg f (fin s m e) (fin t n d) h k v =
    rw (mul_finite f s m e t n d)
    (round_nonneg f (unlike s t) (m * up e * (n * up d)) (down e * down d) (mul-pos (down_pos e) (down_pos d)) (product_zero s t m n (up e) (up d) (sign_of_nonneg s m e h) (sign_of_nonneg t n d k)))

-- ---- quotients

-- x ≥ 0 and y > 0 give x / y ≥ 0, unless a NaN
pub div_nonneg : (f : Format) (x y : Float) → T (le zero⁺ x) → T (lt zero⁺ y) → T (not (is_nan (div f x y))) → T (le zero⁺ (div f x y))
unfolding le lt div is_nan of_bits
div_nonneg f nan y h k v = absurd h
div_nonneg f (inf true) y h k v = absurd h
div_nonneg f (inf false) nan h k v = absurd k
div_nonneg f (inf false) (inf t) h k v = absurd v
div_nonneg f (inf false) (fin true n d) h k v = absurd k
div_nonneg f (inf false) (fin false n d) h k v = tt
div_nonneg f (fin s m e) nan h k v = absurd k
div_nonneg f (fin s m e) (inf true) h k v = absurd k
div_nonneg f (fin true m e) (inf false) h k v = tt
div_nonneg f (fin false m e) (inf false) h k v = tt
div_nonneg f (fin s m e) (fin true n d) h k v = absurd k
div_nonneg f (fin s m e) (fin false n d) h k v =
    let N : 0 < n = ltb→lt 0 n (positive_of_lt (fin false n d) tt k) in
    rw (div_finite f s m e false n d N, unlike_clear s)
    (round_nonneg f s (m * up e * down d) (n * up d * down e) (mul-pos (mul-pos N (up_pos d)) (down_pos e)) (λ u. zero_times m (up e) (down d) (sign_of_nonneg s m e h u)))
