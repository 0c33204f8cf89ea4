-- Multiplication keeps the order in both arguments, over numbers not below zero (zeros of both signs and infinity included), where no NaN comes out. Assumes nothing.
-- Nothing here uses it yet: the most likely course of labels, a later request, compares products of weights.
use mathlib.Core.Path.{◌≡◌, sym, ap, ◌∙◌, subst₂}
use mathlib.Core.Bool.{Bool, true, false, not}
use Prim.Native.Nat.{ℕ, ◌*◌, ◌≤◌, zero-le}
use native.Mathlib.Nat.{zero-mul, mul-pos, mul-le-mul}
use native.Mathlib.Omega.{arith}
use lib.IntN.{ℤ}
use lib.Dec.{T}
use lib.Ieee.{Float, nan, inf, fin, Format, unlike, up, down, mul, le, is_nan, of_bits}
use lib.Ieee.Fits.{down_pos}
use Rattle.number.specs.Number.{zero⁺}
use Rattle.rounding.specs.Signed.{AtMost}
use Rattle.rounding.proofs.Signed.{tests→at_most, sign_of_nonneg, zero_times}
use Rattle.rounding.proofs.Order.{highest}
use Rattle.rounding.proofs.Round.{round_monotone}
use Rattle.rounding.proofs.Operations.{mul_finite}
use Rattle.rounding.proofs.Signs.{product_zero, inf_mul, mul_inf}

-- ±a ≤ ±b is a ≤ b, where only a zero has its sign set
at_most→sizes : (s : Bool) (a : ℕ) (t : Bool) (b : ℕ) → (T s → a ≡ 0) → (T t → b ≡ 0) → AtMost s a t b → a ≤ b
at_most→sizes true a t b h k l = omega (arith, h tt)
at_most→sizes false a true b h k l = omega (arith, k tt)
at_most→sizes false a false b h k l = omega arith

sizes→at_most : (s : Bool) (a : ℕ) (t : Bool) (b : ℕ) → (T s → a ≡ 0) → (T t → b ≡ 0) → a ≤ b → AtMost s a t b
sizes→at_most true a true b h k l = omega (arith, k tt)
sizes→at_most true a false b h k l = zero-le
sizes→at_most false a true b h k l = omega (arith, k tt)
sizes→at_most false a false b h k l = omega arith

sizes : (s : Bool) (m : ℕ) (e : ℤ) (t : Bool) (n : ℕ) (d : ℤ) → T (le zero⁺ (fin s m e)) → T (le zero⁺ (fin t n d)) → T (le (fin s m e) (fin t n d)) → m * up e * down d ≤ n * up d * down e
unfolding le
sizes s m e t n d p q h =
    at_most→sizes s (m * up e * down d) t (n * up d * down e) (λ u. zero_times m (up e) (down d) (sign_of_nonneg s m e p u)) (λ u. zero_times n (up d) (down e) (sign_of_nonneg t n d q u))
    (tests→at_most s (m * up e * down d) t (n * up d * down e) h)

products : (a p a' p' b q b' q' : ℕ) → a * p' ≤ a' * p → b * q' ≤ b' * q → a * b * (p' * q') ≤ a' * b' * (p * q)
products a p a' p' b q b' q' h k = omega (arith, mul-le-mul h k)

times : (x c : ℕ) → x ≡ 0 → x * c ≡ 0
times x c e = ap (λ (z : ℕ). z * c) e ∙ zero-mul c

-- 0 ≤ x ≤ x' and 0 ≤ y ≤ y' give x y ≤ x' y', where neither product is a NaN
pub mul_monotone : (f : Format) (x x' y y' : Float) → T (le zero⁺ x) → T (le zero⁺ x') → T (le zero⁺ y) → T (le zero⁺ y') → T (le x x') → T (le y y') → T (not (is_nan (mul f x y))) → T (not (is_nan (mul f x' y')))
    → T (le (mul f x y) (mul f x' y'))
unfolding le of_bits
mul_monotone f nan x' y y' p p' q q' h k n n' = absurd h
mul_monotone f (inf true) x' y y' p p' q q' h k n n' = absurd p
mul_monotone f (inf false) nan y y' p p' q q' h k n n' = absurd h
mul_monotone f (inf false) (inf true) y y' p p' q q' h k n n' = absurd h
mul_monotone f (inf false) (inf false) y y' p p' q q' h k n n' = rw (inf_mul f y' q' n') (highest (mul f (inf false) y) n)
mul_monotone f (inf false) (fin s' m' e') y y' p p' q q' h k n n' = absurd h
mul_monotone f (fin s m e) nan y y' p p' q q' h k n n' = absurd h
mul_monotone f (fin s m e) (inf true) y y' p p' q q' h k n n' = absurd h
mul_monotone f (fin s m e) (inf false) y y' p p' q q' h k n n' = rw (inf_mul f y' q' n') (highest (mul f (fin s m e) y) n)
mul_monotone f (fin s m e) (fin s' m' e') nan y' p p' q q' h k n n' = absurd k
mul_monotone f (fin s m e) (fin s' m' e') (inf true) y' p p' q q' h k n n' = absurd q
mul_monotone f (fin s m e) (fin s' m' e') (inf false) nan p p' q q' h k n n' = absurd k
mul_monotone f (fin s m e) (fin s' m' e') (inf false) (inf true) p p' q q' h k n n' = absurd k
mul_monotone f (fin s m e) (fin s' m' e') (inf false) (inf false) p p' q q' h k n n' = rw (mul_inf f s' m' e' p' n') (highest (mul f (fin s m e) (inf false)) n)
mul_monotone f (fin s m e) (fin s' m' e') (inf false) (fin t' o' d') p p' q q' h k n n' = absurd k
mul_monotone f (fin s m e) (fin s' m' e') (fin t o d) nan p p' q q' h k n n' = absurd k
mul_monotone f (fin s m e) (fin s' m' e') (fin t o d) (inf true) p p' q q' h k n n' = absurd k
mul_monotone f (fin s m e) (fin s' m' e') (fin t o d) (inf false) p p' q q' h k n n' = rw (mul_inf f s' m' e' p' n') (highest (mul f (fin s m e) (fin t o d)) n)
mul_monotone f (fin s m e) (fin s' m' e') (fin t o d) (fin t' o' d') p p' q q' h k n n' =
    subst₂ (λ (x y : Float). T (le x y)) (sym (mul_finite f s m e t o d)) (sym (mul_finite f s' m' e' t' o' d'))
    (round_monotone f (unlike s t) (unlike s' t') (m * up e * (o * up d)) (down e * down d) (m' * up e' * (o' * up d')) (down e' * down d') (mul-pos (down_pos e) (down_pos d)) (mul-pos (down_pos e') (down_pos d'))
    (sizes→at_most (unlike s t) (m * up e * (o * up d) * (down e' * down d')) (unlike s' t') (m' * up e' * (o' * up d') * (down e * down d))
    (λ u. times (m * up e * (o * up d)) (down e' * down d') (product_zero s t m o (up e) (up d) (sign_of_nonneg s m e p) (sign_of_nonneg t o d q) u))
    (λ u. times (m' * up e' * (o' * up d')) (down e * down d) (product_zero s' t' m' o' (up e') (up d') (sign_of_nonneg s' m' e' p') (sign_of_nonneg t' o' d' q') u))
    (products (m * up e) (down e) (m' * up e') (down e') (o * up d) (down d) (o' * up d') (down d') (sizes s m e s' m' e' p p' h) (sizes t o d t' o' d' q q' k))))
