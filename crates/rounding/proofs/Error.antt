-- How far a fraction rounded is from the fraction. In units the fraction a / c is a * U / c, with U = 2 ^ low f, and rounded it is R = grid f a c;
-- P = 2 ^ prec f. The error is bounded by the result R, not by the fraction: so it adds up over a sum with no second order. Assumes nothing.
use mathlib.Core.Path.{◌≡◌, sym, ap, ◌∙◌, subst}
use mathlib.Core.Logic.{inl, inr}
use mathlib.Core.Bool.{not}
use Prim.Native.Nat.{ℕ, suc, ◌+◌, ◌-◌, ◌*◌, ◌/◌, ◌%◌, ◌^◌, ◌≤◌, ◌<◌, compare, Ordering}
use native.Mathlib.Nat.{le_trans, le_of_eq, mul-le-mul_left, mul-le-mul_right, mul-pos, le_of_mul-le-mul_right, div-add-mod', mod-lt, div-div-eq-div-mul, le-div_iff_mul-le, eq-zero-or-pos, pow-suc}
use native.Mathlib.Omega.{arith}
use lib.Dec.{T, is_le, compare_is_eq, leb→le, nleb→lt, eqb→eq}
use lib.Pow.{pow-add, pow_pos, pow_mono}
use lib.Ieee.{Format, prec, low, nearest, size}
use lib.Ieee.Digits.{size_reaches}
use lib.Ieee.Fits.{two, two-le_pos}
use lib.Ieee.Nearest.{closest, nearest-ge}
use lib.Ieee.Order.{drop, kept}
use lib.Ieee.Scale.{grid}
use Rattle.rounding.specs.Bounds.{Near}

-- ---- to the nearest whole number: at most half a unit off

-- what `compare` says
abbrev Compared : Ordering → ℕ → ℕ → Type 0
Compared Ordering.lt a b = a ≤ b
Compared Ordering.eq a b = a ≡ b
Compared Ordering.gt a b = b < a

compared : (a b : ℕ) → Compared (compare a b) a b
compared a b = go (compare a b) (leb→le a b) (nleb→lt a b) (eqb→eq a b)
  where
    go : (o : Ordering) → (T (is_le o) → a ≤ b) → (T (not (is_le o)) → b < a) → (T (compare_is_eq o) → a ≡ b) → Compared o a b
    go Ordering.lt h k e = h tt
    go Ordering.eq h k e = e tt
    go Ordering.gt h k e = k tt

nearest_error : (q r u n : ℕ) (o : Ordering) → Compared o (r * 2) u → r < u → q * u + r ≡ n → Near u (nearest q o * u * 2) (n * 2)
nearest_error q r u n Ordering.lt c l e = omega arith
nearest_error q r u n Ordering.eq c l e = omega (arith, mul-le-mul_right u (tie q))
  where
    tie : (q : ℕ) → q % 2 ≤ 1
    tie q = omega arith
nearest_error q r u n Ordering.gt c l e = omega arith

pub closest_error : (n u : ℕ) → 0 < u → Near u (closest n u * u * 2) (n * 2)
closest_error n u U = nearest_error (n / u) (n % u) u n (compare (n % u * 2) u) (compared (n % u * 2) u) (mod-lt n U) (div-add-mod' n u)

-- ---- to p digits

-- where digits are dropped, the kept number has at least p digits (lib.Ieee.Order has this too, and keeps it to itself)
kept_ge : (p n c : ℕ) → 0 < p → 0 < drop p n c → 2 ^ (p - 1) ≤ kept p n c
kept_ge p n c P K =
    let k = drop p n c in
    let u = c * 2 ^ k in
    let w = n / c in
    let a : 2 ^ (p - 1) * 2 ^ k ≤ w = le_trans (le_of_eq (sym (pow-add 2 (p - 1) k))) (size_reaches w (p - 1 + k) (all (size w) p P K)) in
    le_trans (subst (λ (x : ℕ). 2 ^ (p - 1) ≤ x) (div-div-eq-div-mul n c (2 ^ k)) ((le-div_iff_mul-le (pow_pos k)).1 a)) (nearest-ge (n / u) (compare (n % u * 2) u))
  where
    all : (z p : ℕ) → 0 < p → 0 < z - p → p - 1 + (z - p) < z
    all z p P h = omega arith

twice : (p : ℕ) → 0 < p → 2 ^ p ≡ 2 ^ (p - 1) * 2
twice p P = ap (λ (x : ℕ). 2 ^ x) (back p P) ∙ pow-suc 2 (p - 1)
  where
    back : (p : ℕ) → 0 < p → p ≡ suc (p - 1)
    back p P = omega arith

-- n / c to p digits
abbrev rounded : ℕ → ℕ → ℕ → ℕ
rounded p n c = kept p n c * 2 ^ drop p n c

-- the unit that it is a multiple of is at most 2 / 2 ^ p of it, or 1
unit_le : (p n c : ℕ) → 0 < p → 2 ^ p * (c * 2 ^ drop p n c) ≤ rounded p n c * c * 2 + 2 ^ p * c
unit_le p n c P = elim (eq-zero-or-pos (drop p n c)) [
  | inl z ↦ subst (λ (k : ℕ). 2 ^ p * (c * 2 ^ k) ≤ rounded p n c * c * 2 + 2 ^ p * c) (sym z) (none (2 ^ p) (rounded p n c * c * 2))
  | inr h ↦ some (2 ^ p) (2 ^ (p - 1)) (kept p n c) (2 ^ drop p n c) (twice p P) (kept_ge p n c P h)
]
  where
    none : (P x : ℕ) → P * (c * 1) ≤ x + P * c
    none P x = omega arith

    some : (P H K t : ℕ) → P ≡ H * 2 → H ≤ K → P * (c * t) ≤ K * t * c * 2 + P * c
    some P H K t e h =
        let m = mul-le-mul_right (c * t) h in
        let q = ap (λ (x : ℕ). x * (c * t)) e in
        omega (arith, m, q)

rounded_error : (p n c : ℕ) → 0 < p → 0 < c → Near (rounded p n c * c * 2 + 2 ^ p * c) (2 ^ p * (rounded p n c * c) * 2) (2 ^ p * n * 2)
rounded_error p n c P C = go (2 ^ p) (kept p n c) (2 ^ drop p n c) (closest_error n (c * 2 ^ drop p n c) (mul-pos C (pow_pos (drop p n c)))) (unit_le p n c P)
  where
    go : (P K t : ℕ) → Near (c * t) (K * (c * t) * 2) (n * 2) → P * (c * t) ≤ K * t * c * 2 + P * c → Near (K * t * c * 2 + P * c) (P * (K * t * c) * 2) (P * n * 2)
    go P K t h l =
        let a = mul-le-mul_left P h.0 in
        let b = mul-le-mul_left P h.1 in
        (omega (arith, a), omega (arith, b))

-- 2 P |R c - a U| ≤ 2 R c + P c
pub rounding_error : (f : Format) (a c : ℕ) → 0 < c → Near (grid f a c * c * 2 + 2 ^ prec f * c) (2 ^ prec f * (grid f a c * c) * 2) (2 ^ prec f * (a * 2 ^ low f) * 2)
rounding_error f a c C = rounded_error (prec f) (a * 2 ^ low f) c (two-le_pos (prec f) (two f)) C

-- ---- a whole number n of units

-- where no digit is dropped, it is itself
itself : (p n c : ℕ) → 0 < c → drop p (n * c) c ≡ 0 → rounded p (n * c) c ≡ n
itself p n c C z = subst (λ (k : ℕ). closest (n * c) (c * 2 ^ k) * 2 ^ k ≡ n) (sym z) (go (closest (n * c) (c * 1)) (closest_error (n * c) (c * 1) (mul-pos C (pow_pos 0))))
  where
    go : (K : ℕ) → Near (c * 1) (K * (c * 1) * 2) (n * c * 2) → K * 1 ≡ n
    go K h =
        let a : K * 2 ≤ n * 2 + 1 = le_of_mul-le-mul_right {k = c} (omega (arith, h.0)) C in
        let b : n * 2 ≤ K * 2 + 1 = le_of_mul-le-mul_right {k = c} (omega (arith, h.1)) C in
        omega arith

whole_error : (p n c : ℕ) → 0 < p → 0 < c → Near (rounded p (n * c) c) (2 ^ p * rounded p (n * c) c) (2 ^ p * n)
whole_error p n c P C = elim (eq-zero-or-pos (drop p (n * c) c)) [
  | inl z ↦ rw (itself p n c C z) (none (2 ^ p))
  | inr h ↦
      let k = drop p (n * c) c in
      some (2 ^ p) (2 ^ (p - 1)) (kept p (n * c) c) (2 ^ k) (twice p P) (kept_ge p (n * c) c P h) (closest_error (n * c) (c * 2 ^ k) (mul-pos C (pow_pos k)))
]
  where
    none : (P : ℕ) → Near n (P * n) (P * n)
    none P = omega arith

    some : (P H K t : ℕ) → P ≡ H * 2 → H ≤ K → Near (c * t) (K * (c * t) * 2) (n * c * 2) → Near (K * t) (P * (K * t)) (P * n)
    some P H K t e h d =
        let m = mul-le-mul_right t h in
        let q = ap (λ (x : ℕ). x * t) e in
        let a : K * t * 2 ≤ n * 2 + t = le_of_mul-le-mul_right {k = c} (omega (arith, d.0)) C in
        let b : n * 2 ≤ K * t * 2 + t = le_of_mul-le-mul_right {k = c} (omega (arith, d.1)) C in
        let v = mul-le-mul_left P a in
        let w = mul-le-mul_left P b in
        (omega (arith, v, m, q), omega (arith, w, m, q))

-- P |R - n| ≤ R for n / U, n whole units: no error from underflow
pub rounding_error_whole : (f : Format) (n : ℕ) → Near (grid f n (2 ^ low f)) (2 ^ prec f * grid f n (2 ^ low f)) (2 ^ prec f * n)
rounding_error_whole f n = whole_error (prec f) n (2 ^ low f) (two-le_pos (prec f) (two f)) (pow_pos (low f))

-- ---- zero

-- 4 ≤ P
pub four_le : (f : Format) → 4 ≤ 2 ^ prec f
four_le f = pow_mono (two f)

-- zero rounded is zero: R = 0 for 0 / c
pub grid_zero : (f : Format) (c : ℕ) → 0 < c → grid f 0 c ≡ 0
grid_zero f c C = go (2 ^ prec f) (2 ^ low f) (grid f 0 c) (four_le f) (rounding_error f 0 c C)
  where
    go : (P U R : ℕ) → 4 ≤ P → Near (R * c * 2 + P * c) (P * (R * c) * 2) (P * (0 * U) * 2) → R ≡ 0
    go P U R h d = elim (eq-zero-or-pos R) [
      | inl z ↦ z
      | inr l ↦
          let a : P * R * 2 ≤ R * 2 + P = le_of_mul-le-mul_right {k = c} (omega (arith, d.0)) C in
          let x = mul-le-mul_left P l in
          let y = mul-le-mul_right R h in
          omega (arith, x, y)
    ]
