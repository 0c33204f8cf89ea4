-- Addition keeps the order in both arguments, over both signs and the infinities, as long as no NaN comes out. Assumes nothing.
use mathlib.Core.Path.{◌≡◌, refl, sym, ap, ◌∙◌, subst₂}
use mathlib.Core.Bool.{Bool, true, false, not}
use Prim.Native.Nat.{ℕ, ◌+◌, ◌*◌, ◌≤◌}
use native.Mathlib.Nat.{mul-pos, mul-le-mul_right}
use native.Mathlib.Omega.{arith}
use lib.IntN.{ℤ}
use lib.Dec.{T}
use lib.Ieee.{Float, nan, inf, fin, Format, up, down, add, le, is_nan}
use lib.Ieee.Fits.{down_pos}
use Rattle.rounding.specs.Signed.{plus_part, minus_part, AtMost}
use Rattle.rounding.proofs.Signed.{plus_scale, minus_scale, tests→at_most}
use Rattle.rounding.proofs.Order.{lowest, highest}
use Rattle.rounding.proofs.Round.{round_monotone}
use Rattle.rounding.proofs.Operations.{add_finite, summed}

-- ---- A / p ≤ A' / p' and B / q ≤ B' / q' give A / p + B / q ≤ A' / p' + B' / q'; each number is a difference, its part above zero less its part below.
-- omega meets a bound of its own where all of this stands in one lemma, so each step has its own

spread : (P x y N z w k : ℕ) → P + (x + y) ≡ N + (z + w) → P * k + (x * k + y * k) ≡ N * k + (z * k + w * k)
spread P x y N z w k e = omega (arith, ap (λ (t : ℕ). t * k) e)

scale_first : (PA NA PA' NA' p q p' q' : ℕ) → PA * p' + NA' * p ≤ PA' * p + NA * p' → PA * q * (p' * q') + NA' * q' * (p * q) ≤ PA' * q' * (p * q) + NA * q * (p' * q')
scale_first PA NA PA' NA' p q p' q' h = omega (arith, mul-le-mul_right (q * q') h)

scale_second : (PB NB PB' NB' p q p' q' : ℕ) → PB * q' + NB' * q ≤ PB' * q + NB * q' → PB * p * (p' * q') + NB' * p' * (p * q) ≤ PB' * p' * (p * q) + NB * p * (p' * q')
scale_second PB NB PB' NB' p q p' q' h = omega (arith, mul-le-mul_right (p * p') h)

linear : (P N P' N' na nb pa pb na' nb' pa' pb' : ℕ) → P + (na + nb) ≡ N + (pa + pb) → P' + (na' + nb') ≡ N' + (pa' + pb') → pa + na' ≤ pa' + na → pb + nb' ≤ pb' + nb → P + N' ≤ P' + N
linear P N P' N' na nb pa pb na' nb' pa' pb' a b c d = omega arith

order_of_sums : (PA NA PB NB PA' NA' PB' NB' p q p' q' P N P' N' : ℕ)
    → P + (NA * q + NB * p) ≡ N + (PA * q + PB * p)
    → P' + (NA' * q' + NB' * p') ≡ N' + (PA' * q' + PB' * p')
    → PA * p' + NA' * p ≤ PA' * p + NA * p'
    → PB * q' + NB' * q ≤ PB' * q + NB * q'
    → P * (p' * q') + N' * (p * q) ≤ P' * (p * q) + N * (p' * q')
order_of_sums PA NA PB NB PA' NA' PB' NB' p q p' q' P N P' N' e e' h k =
    linear (P * (p' * q')) (N * (p' * q')) (P' * (p * q)) (N' * (p * q))
    (NA * q * (p' * q')) (NB * p * (p' * q')) (PA * q * (p' * q')) (PB * p * (p' * q'))
    (NA' * q' * (p * q)) (NB' * p' * (p * q)) (PA' * q' * (p * q)) (PB' * p' * (p * q))
    (spread P (NA * q) (NB * p) N (PA * q) (PB * p) (p' * q') e)
    (spread P' (NA' * q') (NB' * p') N' (PA' * q') (PB' * p') (p * q) e')
    (scale_first PA NA PA' NA' p q p' q' h)
    (scale_second PB NB PB' NB' p q p' q' k)

-- ±c / (p q) is ±a / p + ±b / q, and ±c' / (p' q') is ±a' / p' + ±b' / q'
at_most_of_sums : (s : Bool) (a p : ℕ) (t : Bool) (b q : ℕ) (s' : Bool) (a' p' : ℕ) (t' : Bool) (b' q' : ℕ) (u : Bool) (c : ℕ) (u' : Bool) (c' : ℕ)
    → plus_part u c + (minus_part s (a * q) + minus_part t (b * p)) ≡ minus_part u c + (plus_part s (a * q) + plus_part t (b * p))
    → plus_part u' c' + (minus_part s' (a' * q') + minus_part t' (b' * p')) ≡ minus_part u' c' + (plus_part s' (a' * q') + plus_part t' (b' * p'))
    → AtMost s (a * p') s' (a' * p) → AtMost t (b * q') t' (b' * q)
    → AtMost u (c * (p' * q')) u' (c' * (p * q))
at_most_of_sums s a p t b q s' a' p' t' b' q' u c u' c' e e' h k =
    rw (plus_scale u c (p' * q'), minus_scale u' c' (p * q), plus_scale u' c' (p * q), minus_scale u c (p' * q'))
    (order_of_sums (plus_part s a) (minus_part s a) (plus_part t b) (minus_part t b) (plus_part s' a') (minus_part s' a') (plus_part t' b') (minus_part t' b') p q p' q' (plus_part u c) (minus_part u c) (plus_part u' c') (minus_part u' c')
    (rw (minus_scale s a q, minus_scale t b p, plus_scale s a q, plus_scale t b p) at e)
    (rw (minus_scale s' a' q', minus_scale t' b' p', plus_scale s' a' q', plus_scale t' b' p') at e')
    (rw (plus_scale s a p', minus_scale s' a' p, plus_scale s' a' p, minus_scale s a p') at h)
    (rw (plus_scale t b q', minus_scale t' b' q, plus_scale t' b' q, minus_scale t b q') at k))

-- ---- numbers

finite_monotone : (f : Format) (s : Bool) (m : ℕ) (e : ℤ) (s' : Bool) (m' : ℕ) (e' : ℤ) (t : Bool) (n : ℕ) (d : ℤ) (t' : Bool) (n' : ℕ) (d' : ℤ)
    → AtMost s (m * up e * down e') s' (m' * up e' * down e) → AtMost t (n * up d * down d') t' (n' * up d' * down d) → T (le (add f (fin s m e) (fin t n d)) (add f (fin s' m' e') (fin t' n' d')))
finite_monotone f s m e s' m' e' t n d t' n' d' h k =
    let x = summed f s (m * up e * down d) t (n * up d * down e) (down e * down d) in
    let y = summed f s' (m' * up e' * down d') t' (n' * up d' * down e') (down e' * down d') in
    subst₂ (λ (p q : Float). T (le p q)) (sym (add_finite f s m e t n d ∙ x.is_round)) (sym (add_finite f s' m' e' t' n' d' ∙ y.is_round))
    (round_monotone f x.sign y.sign x.size (down e * down d) y.size (down e' * down d') (mul-pos (down_pos e) (down_pos d)) (mul-pos (down_pos e') (down_pos d'))
    (at_most_of_sums s (m * up e) (down e) t (n * up d) (down d) s' (m' * up e') (down e') t' (n' * up d') (down d') x.sign x.size y.sign y.size x.is_sum y.is_sum h k))

inf_left : (f : Format) (s : Bool) (y : Float) → T (not (is_nan (add f (inf s) y))) → add f (inf s) y ≡ inf s
unfolding add is_nan
inf_left f s nan h = absurd h
inf_left f true (inf true) h = refl
inf_left f true (inf false) h = absurd h
inf_left f false (inf true) h = absurd h
inf_left f false (inf false) h = refl
inf_left f s (fin t n d) h = refl

inf_right : (f : Format) (s : Bool) (m : ℕ) (e : ℤ) (t : Bool) → add f (fin s m e) (inf t) ≡ inf t
unfolding add
inf_right f s m e t = refl

-- x ≤ x' and y ≤ y' give x + y ≤ x' + y', where neither sum is a NaN; no number need fit the format
pub add_monotone : (f : Format) (x x' y y' : Float) → T (le x x') → T (le y y') → T (not (is_nan (add f x y))) → T (not (is_nan (add f x' y'))) → T (le (add f x y) (add f x' y'))
unfolding le
add_monotone f nan x' y y' h k n n' = absurd h
add_monotone f (inf true) x' y y' h k n n' = rw (inf_left f true y n) (lowest (add f x' y') n')
add_monotone f (inf false) nan y y' h k n n' = absurd h
add_monotone f (inf false) (inf true) y y' h k n n' = absurd h
add_monotone f (inf false) (inf false) y y' h k n n' = rw (inf_left f false y' n') (highest (add f (inf false) y) n)
add_monotone f (inf false) (fin s' m' e') y y' h k n n' = absurd h
add_monotone f (fin s m e) nan y y' h k n n' = absurd h
add_monotone f (fin s m e) (inf true) y y' h k n n' = absurd h
add_monotone f (fin s m e) (inf false) y y' h k n n' = rw (inf_left f false y' n') (highest (add f (fin s m e) y) n)
add_monotone f (fin s m e) (fin s' m' e') nan y' h k n n' = absurd k
add_monotone f (fin s m e) (fin s' m' e') (inf true) y' h k n n' = rw (inf_right f s m e true) (lowest (add f (fin s' m' e') y') n')
add_monotone f (fin s m e) (fin s' m' e') (inf false) nan h k n n' = absurd k
add_monotone f (fin s m e) (fin s' m' e') (inf false) (inf true) h k n n' = absurd k
add_monotone f (fin s m e) (fin s' m' e') (inf false) (inf false) h k n n' = rw (inf_right f s' m' e' false) (highest (add f (fin s m e) (inf false)) n)
add_monotone f (fin s m e) (fin s' m' e') (inf false) (fin t' o' d') h k n n' = absurd k
add_monotone f (fin s m e) (fin s' m' e') (fin t o d) nan h k n n' = absurd k
add_monotone f (fin s m e) (fin s' m' e') (fin t o d) (inf true) h k n n' = absurd k
add_monotone f (fin s m e) (fin s' m' e') (fin t o d) (inf false) h k n n' = rw (inf_right f s' m' e' false) (highest (add f (fin s m e) (fin t o d)) n)
add_monotone f (fin s m e) (fin s' m' e') (fin t o d) (fin t' o' d') h k n n' =
    finite_monotone f s m e s' m' e' t o d t' o' d' (tests→at_most s (m * up e * down e') s' (m' * up e' * down e) h) (tests→at_most t (o * up d * down d') t' (o' * up d' * down d) k)
