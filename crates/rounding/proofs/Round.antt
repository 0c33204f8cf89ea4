-- What rounding keeps: the sign, zero, not being below zero, and the order, over both signs and with overflow to an infinity. Assumes nothing.
use mathlib.Core.Path.{◌≡◌, refl, subst₂}
use mathlib.Core.Bool.{Bool, true, false, cond}
use Prim.Native.Nat.{ℕ, zero, suc, ◌+◌, ◌*◌, ◌^◌, ◌<◌, zero-le}
use native.Mathlib.Nat.{zero-mul, mul-pos, mul-le-mul_right}
use native.Mathlib.Omega.{arith}
use lib.Dec.{T, ltb}
use lib.Pow.{pow_pos}
use lib.Ieee.{Float, inf, Format, prec, emax, low, odd, units, round, le, of_bits}
use lib.Ieee.Exact.{HasValue, round_exact}
use lib.Ieee.Order.{round_mono, drop, kept}
use lib.Ieee.Scale.{overflow, round_same}
use Rattle.number.specs.Number.{zero⁺}
use Rattle.rounding.specs.Signed.{Signed, AtMost}
use Rattle.rounding.proofs.Negate.{neg_round}
use Rattle.rounding.proofs.Signed.{at_most→le, minus_le_zero, zero_le_plus}
use Rattle.rounding.proofs.Order.{le_trans_float, le_neg}

odd_signed : (d : ℕ) (s : Bool) (q k l : ℕ) → Signed s (odd d s q k l)
unfolding odd
odd_signed d s zero k l = refl
odd_signed d s (suc q) k l = refl

-- a fraction rounded has the sign that `round` is handed, also where it is zero or an infinity
pub round_signed : (f : Format) (s : Bool) (a c : ℕ) → Signed s (round f s a c)
unfolding round units
round_signed f s a c = go (ltb (q * 2 ^ k) (overflow f))
  where
    q : ℕ
    q = kept (prec f) (a * 2 ^ low f) c

    k : ℕ
    k = drop (prec f) (a * 2 ^ low f) c

    go : (b : Bool) → Signed s (cond b (odd (suc (prec f)) s q k (low f)) (inf s))
    go true = odd_signed (suc (prec f)) s q k (low f)
    go false = refl

-- ±0 / c rounded is ±0
pub round_zero : (f : Format) (s : Bool) (c : ℕ) → 0 < c → HasValue (round f s 0 c) s 0 c
round_zero f s c C = round_exact f s 0 c 0 0 C (pow_pos (prec f)) (pow_pos (low f + suc (emax f))) (go (2 ^ low f))
  where
    go : (u : ℕ) → 0 * u ≡ 0 * c
    go u = omega arith

-- a fraction rounded is not below zero if its sign is clear or it is zero
pub round_nonneg : (f : Format) (s : Bool) (a c : ℕ) → 0 < c → (T s → a ≡ 0) → T (le zero⁺ (round f s a c))
unfolding of_bits
round_nonneg f false a c C h = zero_le_plus (round f false a c) (round_signed f false a c)
round_nonneg f true a c C h = rw (h tt) (at_most→le zero⁺ (round f true 0 c) false true 0 0 c C (refl, zero-mul c) (round_zero f true c C) zero-le)

one_denominator : (f : Format) (s t : Bool) (a b c : ℕ) → 0 < c → AtMost s a t b → T (le (round f s a c) (round f t b c))
one_denominator f true true a b c C h =
    subst₂ (λ (x y : Float). T (le x y)) (neg_round f false a c) (neg_round f false b c) (le_neg (round f false b c) (round f false a c) (round_mono f b c a c C C (mul-le-mul_right c (omega (arith, h)))))
one_denominator f true false a b c C h = le_trans_float (round f true a c) zero⁺ (round f false b c) (minus_le_zero (round f true a c) (round_signed f true a c)) (zero_le_plus (round f false b c) (round_signed f false b c))
one_denominator f false true a b c C h =
    let x : a ≡ 0 = omega arith in
    let y : b ≡ 0 = omega arith in
    rw (x, y) (at_most→le (round f false 0 c) (round f true 0 c) false true 0 0 c C (round_zero f false c C) (round_zero f true c C) zero-le)
one_denominator f false false a b c C h = round_mono f a c b c C C (mul-le-mul_right c (omega (arith, h)))

-- ±a / c ≤ ±b / d gives round (±a / c) ≤ round (±b / d)
pub round_monotone : (f : Format) (s t : Bool) (a c b d : ℕ) → 0 < c → 0 < d → AtMost s (a * d) t (b * c) → T (le (round f s a c) (round f t b d))
round_monotone f s t a c b d C D h =
    subst₂ (λ (x y : Float). T (le x y)) (round_same f s (a * d) (c * d) a c (mul-pos C D) C (omega arith)) (round_same f t (b * c) (c * d) b d (mul-pos C D) D (omega arith))
    (one_denominator f s t (a * d) (b * c) (c * d) (mul-pos C D) h)
