-- Where a fraction is too large for a finite number, and where it is too small for any but zero. Assumes nothing.
use mathlib.Core.Path.{◌≡◌, refl, sym, ap, ◌∙◌, subst}
use mathlib.Core.Bool.{Bool, true, false, cond}
use Prim.Native.Nat.{ℕ, suc, ◌+◌, ◌-◌, ◌*◌, ◌/◌, ◌%◌, ◌^◌, ◌≤◌, ◌<◌, compare}
use native.Mathlib.Nat.{le_of_lt, mul-le-mul_right, mul-le-mul_left, div-eq_of_lt, mod-eq_of_lt, mul-one}
use native.Mathlib.Omega.{arith}
use lib.Dec.{T, ltb, lit<, ltb→lt}
use lib.Ieee.{inf, binary64, size, odd, units, round, nearest}
use lib.Ieee.Fits.{round_is}
use lib.Ieee.Nearest.{closest}
use lib.Ieee.Order.{kept, drop}
use Rattle.rounding.proofs.Error.{rounding_error}
use Rattle.text_limbs.proofs.Halves.{nearest_below}

-- ---- too large

-- P R c + R c + .. against P a U, for an R below O
clash : (p r c a u o m : ℕ) → 0 < c → p * (a * u) * 2 ≤ p * (r * c) * 2 + (r * c * 2 + p * c) → r < o → m * c ≤ a → p * o * 2 + o * 2 + p < p * (m * u) * 2 → ⊥
clash p r c a u o m C h l k n =
    let x : r * c ≤ o * c = mul-le-mul_right c (le_of_lt l) in
    let x' : p * (r * c) ≤ p * (o * c) = mul-le-mul_left p x in
    let y : p * (m * c * u) ≤ p * (a * u) = mul-le-mul_left p (mul-le-mul_right u k) in
    let z : suc (p * o * 2 + o * 2 + p) * c ≤ p * (m * u) * 2 * c = mul-le-mul_right c n in
    omega (arith, x, x', y, z, h)

pub too_large : (s : Bool) (a c : ℕ) → 0 < c → 10 ^ 310 * c ≤ a → round binary64 s a c ≡ inf s
unfolding units
too_large s a c C h = round_is binary64 s a c ∙ above (kept 53 (a * 2 ^ 1074) c) (drop 53 (a * 2 ^ 1074) c) (rounding_error binary64 a c C).1
  where
    above : (q k : ℕ) → 2 ^ 53 * (a * 2 ^ 1074) * 2 ≤ 2 ^ 53 * (q * 2 ^ k * c) * 2 + (q * 2 ^ k * c * 2 + 2 ^ 53 * c) → units binary64 s q k ≡ inf s
    above q k e = go (ltb (q * 2 ^ k) (2 ^ 2098)) (ltb→lt (q * 2 ^ k) (2 ^ 2098))
      where
        go : (t : Bool) → (T t → q * 2 ^ k < 2 ^ 2098) → cond t (odd 54 s q k 1074) (inf s) ≡ inf s
        go true f = absurd (clash (2 ^ 53) (q * 2 ^ k) c a (2 ^ 1074) (2 ^ 2098) (10 ^ 310) C e (f tt) h (lit< tt))
        go false f = refl

-- ---- too small

pub too_small : (s : Bool) (a c : ℕ) → a * 2 ^ 1075 < c → round binary64 s a c ≡ units binary64 s 0 0
unfolding size
too_small s a c h =
    let n : ℕ = a * 2 ^ 1074 in
    let l : n < c = less a (2 ^ 1074) (2 ^ 1075) c refl h in
    let z : n / c ≡ 0 = div-eq_of_lt l in
    let k : size (n / c) - 53 ≡ 0 = ap (λ (x : ℕ). size x - 53) z ∙ none in
    let q : closest n (c * 2 ^ 0) ≡ 0 =
    ap (λ (x : ℕ). closest n x) (mul-one c)
    ∙ ap (λ (x : ℕ). nearest x (compare (n % c * 2) c)) z
    ∙ nearest_below 0 (n % c * 2) c (subst (λ (x : ℕ). x * 2 < c) (sym (mod-eq_of_lt l)) (twice a (2 ^ 1074) (2 ^ 1075) c refl h)) in
    round_is binary64 s a c ∙ ap (λ (x : ℕ). units binary64 s (closest n (c * 2 ^ x)) x) k ∙ ap (λ (x : ℕ). units binary64 s x 0) q
  where
    none : size 0 - 53 ≡ 0
    none = refl

    less : (a u t c : ℕ) → t ≡ u * 2 → a * t < c → a * u < c
    less a u t c e h = let p = ap (λ (z : ℕ). a * z) e in omega (arith, p)

    twice : (a u t c : ℕ) → t ≡ u * 2 → a * t < c → a * u * 2 < c
    twice a u t c e h = let p = ap (λ (z : ℕ). a * z) e in omega (arith, p)
