-- Sums of numbers of either sign, in units of 2 ^ -1074: what an exact sum says of the rounded one. Assumes nothing.
use mathlib.Core.Path.{◌≡◌, refl, sym, ap, ◌∙◌, subst, subst₂}
use mathlib.Core.Bool.{Bool, true, false, not}
use Prim.Native.Nat.{ℕ, ◌+◌, ◌*◌, ◌^◌, ◌≤◌, ◌<◌}
use native.Mathlib.Nat.{le_of_eq, le_refl, mul_assoc, mul-pos, mul-le-mul_right, le_of_mul-le-mul_right}
use native.Mathlib.Omega.{arith}
use lib.Pow.{pow_pos}
use lib.Dec.{T}
use lib.Ieee.{Float, nan, inf, fin, binary64, up, down, neg, round, add, le, fits}
use lib.Ieee.Fits.{down_pos}
use lib.Ieee.Exact.{HasValue, round_exact}
use lib.Ieee.Positive.{through}
use Rattle.rounding.specs.Bounds.{Within}
use Rattle.rounding.specs.Signed.{plus_part, minus_part}
use Rattle.rounding.proofs.Units.{placed}
use Rattle.rounding.proofs.Signed.{plus_scale, minus_scale, over_left, over_right, at_most→le}
use Rattle.rounding.proofs.Order.{le_trans_float}
use Rattle.rounding.proofs.Round.{round_monotone}
use Rattle.rounding.proofs.Operations.{add_finite, summed}
use Rattle.rounding.proofs.Intervals.{Exact, within_round}

-- ---- a number of the format in units of 2 ^ -1074: it is a whole number of them, and rounded to itself
pub record InUnits (x : Float) : Type 0 where
  pub sign : Bool
  pub size : ℕ
  pub is : HasValue x sign size (2 ^ 1074)
  pub kept : HasValue (round binary64 sign size (2 ^ 1074)) sign size (2 ^ 1074)

pub as_units : (x : Float) (a c : ℕ) → T (fits binary64 x) → Within x a c → InUnits x
as_units nan a c f w = absurd w
as_units (inf s) a c f w = absurd w
as_units (fin s m e) a c f w =
    let d = placed binary64 s m e f in
    record {
      sign = s;
      size = m * 2 ^ d.place;
      is = (refl, mul_assoc m (up e) (2 ^ 1074) ∙ ap (λ (z : ℕ). m * z) d.at ∙ sym (mul_assoc m (2 ^ d.place) (down e)));
      kept = round_exact binary64 s (m * 2 ^ d.place) (2 ^ 1074) m d.place (pow_pos 1074) d.digits d.under refl;
    }

-- a bound on the size, in units
pub units_within : (x : Float) (s : Bool) (v a c : ℕ) → HasValue x s v (2 ^ 1074) → Within x a c → v * c ≤ a * 2 ^ 1074
units_within nan s v a c h w = absurd w
units_within (inf t) s v a c h w = absurd w
units_within (fin t m e) s v a c h w = through v (m * up e) a (2 ^ 1074) (down e) c (down_pos e) (le_of_eq (sym h.1)) w

pub value_neg : (x : Float) (s : Bool) (v : ℕ) → HasValue x s v (2 ^ 1074) → HasValue (neg x) (not s) v (2 ^ 1074)
unfolding neg
value_neg nan s v h = absurd h
value_neg (inf t) s v h = absurd h
value_neg (fin t m e) s v h = (ap not h.0, h.1)

-- ---- a sum is p - n units, rounded
pub record Sum (z : Float) (p n : ℕ) : Type 0 where
  pub sign : Bool
  pub size : ℕ
  pub den : ℕ
  pub above_zero : 0 < den
  pub is_round : z ≡ round binary64 sign size den
  pub is_sum : plus_part sign (size * 2 ^ 1074) + n * den ≡ minus_part sign (size * 2 ^ 1074) + p * den

plus_at : (s : Bool) (A a C U : ℕ) → A * U ≡ a * C → plus_part s A * U ≡ plus_part s a * C
plus_at true A a C U e = omega arith
plus_at false A a C U e = e

minus_at : (s : Bool) (A a C U : ℕ) → A * U ≡ a * C → minus_part s A * U ≡ minus_part s a * C
minus_at true A a C U e = e
minus_at false A a C U e = omega arith

-- A / C is a / U, B / C is b / U, and N / C is their sum
sum_at : (u s t : Bool) (N A B a b C U : ℕ) → A * U ≡ a * C → B * U ≡ b * C → plus_part u N + (minus_part s A + minus_part t B) ≡ minus_part u N + (plus_part s A + plus_part t B)
    → plus_part u (N * U) + (minus_part s a + minus_part t b) * C ≡ minus_part u (N * U) + (plus_part s a + plus_part t b) * C
sum_at u s t N A B a b C U x y e =
    rw (plus_scale u N U, minus_scale u N U)
    (go (plus_part u N) (minus_part u N) (minus_part s A) (minus_part t B) (plus_part s A) (plus_part t B) (minus_part s a) (minus_part t b) (plus_part s a) (plus_part t b) C U
    e (minus_at s A a C U x) (minus_at t B b C U y) (plus_at s A a C U x) (plus_at t B b C U y))
  where
    go : (P M A B D E a b d e C U : ℕ) → P + (A + B) ≡ M + (D + E) → A * U ≡ a * C → B * U ≡ b * C → D * U ≡ d * C → E * U ≡ e * C → P * U + (a + b) * C ≡ M * U + (d + e) * C
    go P M A B D E a b d e C U h i j k l =
        let x = ap (λ (z : ℕ). z * U) h in
        omega (arith, x)

pub sum_of : (x y : Float) (s t : Bool) (a b : ℕ) → HasValue x s a (2 ^ 1074) → HasValue y t b (2 ^ 1074) → Sum (add binary64 x y) (plus_part s a + plus_part t b) (minus_part s a + minus_part t b)
sum_of nan y s t a b h k = absurd h
sum_of (inf r) y s t a b h k = absurd h
sum_of (fin r m e) nan s t a b h k = absurd k
sum_of (fin r m e) (inf u) s t a b h k = absurd k
sum_of (fin r m e) (fin u n d) s t a b h k =
    let x = summed binary64 r (m * up e * down d) u (n * up d * down e) (down e * down d) in
    record {
      sign = x.sign;
      size = x.size;
      den = down e * down d;
      above_zero = mul-pos (down_pos e) (down_pos d);
      is_round = add_finite binary64 r m e u n d ∙ x.is_round;
      is_sum =
          subst₂ (λ (p q : Bool). plus_part x.sign (x.size * 2 ^ 1074) + (minus_part p a + minus_part q b) * (down e * down d) ≡ minus_part x.sign (x.size * 2 ^ 1074) + (plus_part p a + plus_part q b) * (down e * down d)) h.0 k.0
          (sum_at x.sign r u x.size (m * up e * down d) (n * up d * down e) a b (down e * down d) (2 ^ 1074)
          (over_left (m * up e) (down e) a (down d) (2 ^ 1074) h.1)
          (over_right (n * up d) (down d) b (down e) (2 ^ 1074) k.1)
          x.is_sum);
    }

-- h, a number of the format, is at most the sum
pub sum_ge : (z h : Float) (p n : ℕ) (w : InUnits h) → Sum z p n → plus_part w.sign w.size + n ≤ minus_part w.sign w.size + p → T (le h z)
sum_ge z h p n w x k =
    let r : Float = round binary64 w.sign w.size (2 ^ 1074) in
    le_trans_float h r z
    (at_most→le h r w.sign w.sign w.size w.size (2 ^ 1074) (pow_pos 1074) w.is w.kept (le_refl _))
    (subst (λ (q : Float). T (le r q)) (sym x.is_round)
    (round_monotone binary64 w.sign x.sign w.size (2 ^ 1074) x.size x.den (pow_pos 1074) x.above_zero
    (rw (plus_scale w.sign w.size x.den, minus_scale w.sign w.size x.den)
    (go (plus_part w.sign w.size) (minus_part w.sign w.size) n p x.den (plus_part x.sign (x.size * 2 ^ 1074)) (minus_part x.sign (x.size * 2 ^ 1074)) k x.is_sum))))
  where
    go : (a b n p C P M : ℕ) → a + n ≤ b + p → P + n * C ≡ M + p * C → a * C + M ≤ P + b * C
    go a b n p C P M h e =
        let x = mul-le-mul_right C h in
        omega (arith, x)

-- a sum of at most v units in size
pub sum_within : (z : Float) (p n v a c : ℕ) → Sum z p n → p ≤ n + v → n ≤ p + v → 0 < c → v * c ≤ a * 2 ^ 1074 → Exact a c → Within z a c
sum_within z p n v a c x h k C l e =
    subst (λ (q : Float). Within q a c) (sym x.is_round)
    (within_round x.sign x.size x.den a c x.above_zero C
    (le_of_mul-le-mul_right {k = 2 ^ 1074} (scaled x.size v x.den a c (2 ^ 1074) (size_le x.sign (x.size * 2 ^ 1074) p n v x.den h k x.is_sum) l) (pow_pos 1074)) e)
  where
    size_le : (s : Bool) (N p n v C : ℕ) → p ≤ n + v → n ≤ p + v → plus_part s N + n * C ≡ minus_part s N + p * C → N ≤ v * C
    size_le true N p n v C h k e =
        let x = mul-le-mul_right C k in
        omega (arith, x)
    size_le false N p n v C h k e =
        let x = mul-le-mul_right C h in
        omega (arith, x)

    scaled : (N v C a c U : ℕ) → N * U ≤ v * C → v * c ≤ a * U → N * c * U ≤ a * C * U
    scaled N v C a c U h k =
        let x = mul-le-mul_right c h in
        let y = mul-le-mul_right C k in
        omega (arith, x, y)
