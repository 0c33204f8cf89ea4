-- A fraction within one part in 2 * 10 ^ 16 of a number rounds to that number: a number has 53 binary digits, and 2 ^ 53 is below
-- 10 ^ 16. And the decimal of 17 digits is as near as that. Assumes nothing.
use mathlib.Core.Path.{◌≡◌, refl, sym, ap, ◌∙◌, subst}
use mathlib.Core.Bool.{Bool, true, false, cond}
use mathlib.Core.Logic.{inl, inr}
use Prim.Native.Nat.{ℕ, zero, suc, ◌+◌, ◌-◌, ◌*◌, ◌/◌, ◌%◌, ◌^◌, ◌≤◌, ◌<◌, compare}
use native.Mathlib.Nat.{le_trans, le_of_eq, le_of_lt, lt_of_lt_of_le, not-le_of_lt, mul-pos, mul_assoc, mul-le-mul_right, mul-le-mul_left, le_of_mul-le-mul_right, lt_of_mul-lt-mul_right, mul-add-mod_self_right, mod-eq_of_lt, add-mul-div_right, div-eq_of_lt, div-lt_iff_lt-mul, le-div_iff_mul-le, pow-succ'}
use native.Mathlib.Omega.{arith}
use borrow.Author.Tests.{eqb-true}
use lib.Dec.{T, eqb, lit<, lit≤}
use lib.Pow.{pow-add, pow_pos, pow_mono}
use lib.Ieee.{Float, binary64, size, units, round, nearest, fits, of_bits}
use lib.Ieee.Digits.{size-lt, size_reaches}
use lib.Ieee.Fits.{round_is}
use lib.Ieee.Bits.{of_bits-to_bits}
use lib.Ieee.Exact.{HasValue, units_val}
use lib.Ieee.Nearest.{closest}
use Rattle.rounding.proofs.Choose.{le_or_lt}
use Rattle.rounding.proofs.Error.{closest_error}
use Rattle.text_decimal_write.specs.declared.Decimal.{Decimal}
use Rattle.text_decimal_write.specs.Decimals.{over, under, tens, decimal_of}
use Rattle.text_decimal_write.specs.Room.{guess_of}
use Rattle.text_limbs.proofs.Tens.{ten_pos}
use Rattle.text_limbs.proofs.Halves.{nearest_below, nearest_above}
use Rattle.text_decimal_read.proofs.Patterns.{to_bits_lem}
use Rattle.text_decimal_write.proofs.First.{under_pos, next_ten, reach_next, tens_are, Guessed, guessed}

-- ---- to the nearest whole number, from less than half away

quotient_of : (q v r : ℕ) → r < v → ((q * v + r) / v ≡ q) × ((q * v + r) % v ≡ r)
quotient_of q v r h = (
  ap (λ (z : ℕ). z / v) (flip q v r) ∙ add-mul-div_right r q (some h) ∙ ap (λ (z : ℕ). z + q) (div-eq_of_lt h) ∙ none q,
  mul-add-mod_self_right q v r ∙ mod-eq_of_lt h,
)
  where
    flip : (q v r : ℕ) → q * v + r ≡ r + q * v
    flip q v r = omega arith

    some : r < v → 0 < v
    some h = omega arith

    none : (q : ℕ) → 0 + q ≡ q
    none q = omega arith

from_above : (n v q r : ℕ) → n ≡ q * v + r → r * 2 < v → closest n v ≡ q
from_above n v q r e h =
    let p = quotient_of q v r (less r v h) in
    ap (λ (z : ℕ). closest z v) e ∙ ap (λ (z : ℕ). nearest z (compare ((q * v + r) % v * 2) v)) p.0 ∙ ap (λ (z : ℕ). nearest q (compare (z * 2) v)) p.1 ∙ nearest_below q (r * 2) v h
  where
    less : (r v : ℕ) → r * 2 < v → r < v
    less r v h = omega arith

from_below : (n v q r : ℕ) → n ≡ q * v + r → r < v → v < r * 2 → closest n v ≡ suc q
from_below n v q r e l h =
    let p = quotient_of q v r l in
    ap (λ (z : ℕ). closest z v) e ∙ ap (λ (z : ℕ). nearest z (compare ((q * v + r) % v * 2) v)) p.0 ∙ ap (λ (z : ℕ). nearest q (compare (z * 2) v)) p.1 ∙ nearest_above q (r * 2) v h

closest_near : (n v q : ℕ) → 2 * n < 2 * (q * v) + v → 2 * (q * v) < 2 * n + v → closest n v ≡ q
closest_near n v q a b = elim (le_or_lt (q * v) n) [
  | inl h ↦ from_above n v q (n - q * v) (up (q * v) h) (small (q * v) h a)
  | inr h ↦ below q h b
]
  where
    up : (p : ℕ) → p ≤ n → n ≡ p + (n - p)
    up p h = omega arith

    small : (p : ℕ) → p ≤ n → 2 * n < 2 * p + v → (n - p) * 2 < v
    small p h a = omega arith

    below : (q : ℕ) → n < q * v → 2 * (q * v) < 2 * n + v → closest n v ≡ q
    below zero h b = absurd (omega arith)
    below (suc q) h b = from_below n v q (n - q * v) (up (q * v) (reach q h b)) (less q h b) (half q h b)
      where
        reach : (q : ℕ) → n < suc q * v → 2 * (suc q * v) < 2 * n + v → q * v ≤ n
        reach q h b = omega arith

        less : (q : ℕ) → n < suc q * v → 2 * (suc q * v) < 2 * n + v → n - q * v < v
        less q h b = omega arith

        half : (q : ℕ) → n < suc q * v → 2 * (suc q * v) < 2 * n + v → v < (n - q * v) * 2
        half q h b = omega arith

-- ---- near: a and b differ by at most a / (2 10 ^ 16)

pub record Near (a b : ℕ) : Type 0 where
  pub most : 20000000000000000 * b ≤ 20000000000000001 * a
  pub least : 20000000000000000 * a ≤ 20000000000000000 * b + a

-- only the quotient matters
pub near_same : (a b c d : ℕ) → 0 < a → a * d ≡ c * b → Near a b → Near c d
near_same a b c d A e h =
    record {
      most = (le_of_mul-le-mul_right {k = a} (let p = mul-le-mul_right c h.most in omega (arith, p, e)) A);
      least = (le_of_mul-le-mul_right {k = a} (let p = mul-le-mul_right c h.least in omega (arith, p, e)) A);
    }

-- ---- four sums, over any numbers e and f in the place of 2 10 ^ 16 and 2 ^ 53

no_more : (e f x y n : ℕ) → f ≤ 2 * e → (f + 2) * x ≤ y → n < f * x → suc e * y ≤ suc e * n + y → ⊥
no_more e f x y n k a b c =
    let p = mul-le-mul_right x k in
    let q : e * ((f + 2) * x) ≤ e * y = mul-le-mul_left e a in
    let r : suc e * suc n ≤ suc e * (f * x) = mul-le-mul_left (suc e) b in
    omega (arith, p, q, r, c)

no_less : (e f z y n : ℕ) → f < e → 0 < z → y ≤ f * z → suc f * z ≤ n → e * n ≤ suc e * y → ⊥
no_less e f z y n k Z a b c =
    let p : suc f * z ≤ e * z = mul-le-mul_right z k in
    let q : e * (suc f * z) ≤ e * n = mul-le-mul_left e b in
    let r : suc e * y ≤ suc e * (f * z) = mul-le-mul_left (suc e) a in
    omega (arith, p, q, r, c)

half_above : (e f x y n : ℕ) → 2 * f < e → 0 < x → y ≤ f * x → e * n ≤ suc e * y → 2 * n < 2 * y + x
half_above e f x y n k X a b =
    lt_of_mul-lt-mul_right e
    (let p : suc (2 * f) * x ≤ e * x = mul-le-mul_right x k in
    omega (arith, p))

half_below : (e f x y n : ℕ) → 2 * f < e → 0 < x → y ≤ f * x → e * y ≤ e * n + y → 2 * y < 2 * n + x
half_below e f x y n k X a b =
    lt_of_mul-lt-mul_right e
    (let p : suc (2 * f) * x ≤ e * x = mul-le-mul_right x k in
    omega (arith, p))

-- ---- a fraction n / den near u = m * 2 ^ g, m of 53 digits

module _ (n den m g : ℕ) (D : 0 < den) (M : m < 2 ^ 53) (h : Near (m * 2 ^ g * den) n) where
  n_less : n < 2 ^ 53 * 2 ^ (size (n / den) - 53) * den
  n_less =
      (div-lt_iff_lt-mul D).0
      (lt_of_lt_of_le (size-lt (n / den)) (le_trans (pow_mono (cover (size (n / den)))) (le_of_eq (pow-add 2 53 (size (n / den) - 53)))))
    where
      cover : (z : ℕ) → z ≤ 53 + (z - 53)
      cover z = omega arith

  -- u has at most 53 digits before what is dropped
  few : m * 2 ^ g ≤ 2 ^ 53 * 2 ^ (size (n / den) - 53)
  few = elim (le_or_lt g (size (n / den) - 53)) [
    | inl l ↦ le_trans (mul-le-mul_right (2 ^ g) (le_of_lt M)) (mul-le-mul_left (2 ^ 53) (pow_mono l))
    | inr l ↦
        elim (le_or_lt (m * 2 ^ g) (2 ^ 53 * 2 ^ (size (n / den) - 53))) [
          | inl k ↦ k
          | inr k ↦
              absurd
              (clash (m * 2 ^ (g - suc (size (n / den) - 53))) (2 ^ (size (n / den) - 53)) (m * 2 ^ g) den n (even g (size (n / den) - 53) l) k n_less h.least)
        ]
  ]
    where
      back : (g k : ℕ) → k < g → g ≡ g - suc k + suc k
      back g k l = omega arith

      even : (g k : ℕ) → k < g → m * 2 ^ g ≡ m * 2 ^ (g - suc k) * (2 * 2 ^ k)
      even g k l =
          ap (λ (z : ℕ). m * 2 ^ z) (back g k l) ∙ ap (λ (z : ℕ). m * z) (pow-add 2 (g - suc k) (suc k)) ∙ sym (mul_assoc m (2 ^ (g - suc k)) (2 ^ suc k)) ∙ ap (λ (z : ℕ). m * 2 ^ (g - suc k) * z) (pow-succ' 2 k)

      sums : (x y n : ℕ) → (2 ^ 53 + 2) * x ≤ y → n < 2 ^ 53 * x → 20000000000000000 * y ≤ 20000000000000000 * n + y → ⊥
      sums x y n a b c = no_more 19999999999999999 (2 ^ 53) x y n (lit≤ tt) a b c

      double : (a t : ℕ) → 2 ^ 53 * t < a * (2 * t) → 2 ^ 52 < a
      double a t k = elim (le_or_lt a (2 ^ 52)) [
        | inl l ↦ absurd (not-le_of_lt k (le_trans (mul-le-mul_right (2 * t) l) (le_of_eq (turn t))))
        | inr l ↦ l
      ]
        where
          turn : (t : ℕ) → 2 ^ 52 * (2 * t) ≡ 2 ^ 53 * t
          turn t = omega arith

      clash : (a t u den n : ℕ) → u ≡ a * (2 * t) → 2 ^ 53 * t < u → n < 2 ^ 53 * t * den → 20000000000000000 * (u * den) ≤ 20000000000000000 * n + u * den → ⊥
      clash a t u den n e k l f =
          let p : (2 ^ 52 + 1) * (2 * t * den) ≤ a * (2 * t * den) = mul-le-mul_right (2 * t * den) (next (2 ^ 52) a (double a t (subst (λ (z : ℕ). 2 ^ 53 * t < z) e k))) in
          let q = ap (λ (z : ℕ). z * den) e in
          sums (t * den) (u * den) n (omega (arith, p, q)) (omega (arith, l)) f
        where
          next : (x a : ℕ) → x < a → x + 1 ≤ a
          next x a h = omega arith

  -- u is a multiple of what is dropped
  multiple : (c : ℕ) × (m * 2 ^ g ≡ c * 2 ^ (size (n / den) - 53))
  multiple = elim (le_or_lt (size (n / den) - 53) g) [
    | inl l ↦ (
      m * 2 ^ (g - (size (n / den) - 53)),
      ap (λ (z : ℕ). m * 2 ^ z) (back g (size (n / den) - 53) l) ∙ ap (λ (z : ℕ). m * z) (pow-add 2 (g - (size (n / den) - 53)) (size (n / den) - 53)) ∙ sym (mul_assoc m (2 ^ (g - (size (n / den) - 53))) (2 ^ (size (n / den) - 53))),
    )
    | inr l ↦
        absurd
        (clash (m * 2 ^ g) (2 ^ (size (n / den) - 53 - 1)) (mul-pos (pow_pos (size (n / den) - 53 - 1)) D)
        (le_trans (mul-le-mul_left m (pow_mono (before g (size (n / den) - 53) l))) (mul-le-mul_right (2 ^ (size (n / den) - 53 - 1)) (less m M)))
        (le_trans (le_of_eq (ap (λ (z : ℕ). z * den) (sym (pow-add 2 53 (size (n / den) - 53 - 1))))) ((le-div_iff_mul-le D).0 (size_reaches (n / den) (53 + (size (n / den) - 53 - 1)) (top (size (n / den)) g l)))) h.most)
  ]
    where
      back : (g k : ℕ) → k ≤ g → g ≡ g - k + k
      back g k l = omega arith

      before : (g k : ℕ) → g < k → g ≤ k - 1
      before g k l = omega arith

      less : (m : ℕ) → m < 2 ^ 53 → m ≤ 2 ^ 53 - 1
      less m h = omega arith

      top : (z g : ℕ) → g < z - 53 → 53 + (z - 53 - 1) < z
      top z g l = omega arith

      sums : (z y n : ℕ) → 0 < z → y ≤ (2 ^ 53 - 1) * z → 2 ^ 53 * z ≤ n → 20000000000000000 * n ≤ 20000000000000001 * y → ⊥
      sums z y n p a b c = no_less 20000000000000000 (2 ^ 53 - 1) z y n (lit< tt) p a b c

      clash : (u t : ℕ) → 0 < t * den → u ≤ (2 ^ 53 - 1) * t → 2 ^ 53 * t * den ≤ n → 20000000000000000 * n ≤ 20000000000000001 * (u * den) → ⊥
      clash u t p a b c =
          let q : u * den ≤ (2 ^ 53 - 1) * t * den = mul-le-mul_right den a in
          sums (t * den) (u * den) n p (le_trans q (le_of_eq (mul_assoc (2 ^ 53 - 1) t den))) (le_trans (le_of_eq (sym (mul_assoc (2 ^ 53) t den))) b) c

  abbrev unit : ℕ
  unit = den * 2 ^ (size (n / den) - 53)

  bound : m * 2 ^ g * den ≤ 2 ^ 53 * unit
  bound = le_trans (mul-le-mul_right den few) (le_of_eq (turn (2 ^ (size (n / den) - 53))))
    where
      turn : (t : ℕ) → 2 ^ 53 * t * den ≡ 2 ^ 53 * (den * t)
      turn t = omega arith

  in_units_lem : m * 2 ^ g * den ≡ multiple.0 * unit
  in_units_lem = ap (λ (z : ℕ). z * den) multiple.1 ∙ turn multiple.0 (2 ^ (size (n / den) - 53))
    where
      turn : (c t : ℕ) → c * t * den ≡ c * (den * t)
      turn c t = omega arith

  kept_back : closest n unit * 2 ^ (size (n / den) - 53) ≡ m * 2 ^ g
  kept_back =
      ap (λ (z : ℕ). z * 2 ^ (size (n / den) - 53))
      (closest_near n unit multiple.0
      (subst (λ (z : ℕ). 2 * n < 2 * z + unit) in_units_lem (above unit (m * 2 ^ g * den) n (mul-pos D (pow_pos (size (n / den) - 53))) bound h.most))
      (subst (λ (z : ℕ). 2 * z < 2 * n + unit) in_units_lem (below unit (m * 2 ^ g * den) n (mul-pos D (pow_pos (size (n / den) - 53))) bound h.least)))
      ∙ sym multiple.1
    where
      above : (x y n : ℕ) → 0 < x → y ≤ 2 ^ 53 * x → 20000000000000000 * n ≤ 20000000000000001 * y → 2 * n < 2 * y + x
      above x y n p a b = half_above 20000000000000000 (2 ^ 53) x y n (lit< tt) p a b

      below : (x y n : ℕ) → 0 < x → y ≤ 2 ^ 53 * x → 20000000000000000 * y ≤ 20000000000000000 * n + y → 2 * y < 2 * n + x
      below x y n p a b = half_below 20000000000000000 (2 ^ 53) x y n (lit< tt) p a b

pub round_back : (s : Bool) (num den m g : ℕ) → 0 < den → m < 2 ^ 53 → m * 2 ^ g < 2 ^ 2098 → Near (m * 2 ^ g * den) (num * 2 ^ 1074) → HasValue (round binary64 s num den) s (m * 2 ^ g) (2 ^ 1074)
round_back s num den m g D M l h =
    let n : ℕ = num * 2 ^ 1074 in
    let k : ℕ = size (n / den) - 53 in
    let e : closest n (den * 2 ^ k) * 2 ^ k ≡ m * 2 ^ g = kept_back n den m g D M h in
    subst (λ (z : Float). HasValue z s (m * 2 ^ g) (2 ^ 1074)) (sym (round_is binary64 s num den))
    (subst (λ (z : ℕ). HasValue (units binary64 s (closest n (den * 2 ^ k)) k) s z (2 ^ 1074)) e
    (units_val binary64 s (closest n (den * 2 ^ k)) k (subst (λ (z : ℕ). z < 2 ^ 2098) (sym e) l)))

-- two numbers of the same value are the same
pub same_value : (x y : Float) (s : Bool) (n : ℕ) → T (fits binary64 x) → T (fits binary64 y) → HasValue x s n (2 ^ 1074) → HasValue y s n (2 ^ 1074) → x ≡ y
same_value x y s n f g a b =
    sym (of_bits-to_bits binary64 x f) ∙ ap (of_bits binary64) (to_bits_lem x s n a ∙ sym (to_bits_lem y s n b)) ∙ of_bits-to_bits binary64 y g

-- ---- the decimal of u units

pub tens_reach : (u : ℕ) → 0 < u → u < 2 ^ 2098 → 10 ^ 16 * under (tens u) ≤ over u (tens u)
tens_reach u p h = go (guess_of (size u)) (guessed u p h)
  where
    go : (t : ℕ) → Guessed u t → 10 ^ 16 * under (tens u) ≤ over u (tens u)
    go t g = elim (le_or_lt (10 ^ 17 * under t) (over u t)) [
      | inl l ↦
          let r = reach_next u t l in
          subst (λ (z : ℕ). 10 ^ 16 * under z ≤ over u z) (sym (tens_are u (suc t) g.few r g.short)) r
      | inr l ↦ subst (λ (z : ℕ). 10 ^ 16 * under z ≤ over u z) (sym (tens_are u t (le_of_lt g.few) g.reach l)) g.reach
    ]

pub decimal_near : (u : ℕ) → 0 < u → u < 2 ^ 2098 → Near (over u (decimal_of u).tens) ((decimal_of u).digits * under (decimal_of u).tens)
unfolding decimal_of
decimal_near u p h =
    go (eqb (closest (over u (tens u)) (under (tens u))) (10 ^ 17)) (eqb-true (closest (over u (tens u)) (under (tens u))) (10 ^ 17))
    (near (over u (tens u)) (under (tens u)) (closest (over u (tens u)) (under (tens u))) (tens_reach u p h) (closest_error (over u (tens u)) (under (tens u)) (under_pos (tens u))))
  where
    near : (a c d : ℕ) → 10 ^ 16 * c ≤ a → (d * c * 2 ≤ a * 2 + c) × (a * 2 ≤ d * c * 2 + c) → Near a (d * c)
    near a c d r e = record { most = sums a c (d * c) r e.0; least = sums_2 a c (d * c) r e.1 }
      where
        sums : (a c b : ℕ) → 10 ^ 16 * c ≤ a → b * 2 ≤ a * 2 + c → 20000000000000000 * b ≤ 20000000000000001 * a
        sums a c b r e = omega arith

        sums_2 : (a c b : ℕ) → 10 ^ 16 * c ≤ a → a * 2 ≤ b * 2 + c → 20000000000000000 * a ≤ 20000000000000000 * b + a
        sums_2 a c b r e = omega arith

    some : (a c : ℕ) → 0 < c → 10 ^ 16 * c ≤ a → 0 < a
    some a c p h = omega arith

    carry : (a b c d : ℕ) → a * d ≡ 10 * c * b → a * (10 ^ 16 * d) ≡ c * (10 ^ 17 * b)
    carry a b c d e = omega arith

    one : (t : ℕ) → suc t ≡ t + 1
    one t = omega arith

    go : (b : Bool) → (b ≡ true → closest (over u (tens u)) (under (tens u)) ≡ 10 ^ 17)
        → Near (over u (tens u)) (closest (over u (tens u)) (under (tens u)) * under (tens u))
        → Near (over u (cond {A = Decimal} b (record { digits = 10 ^ 16; tens = tens u + 1 }) (record { digits = closest (over u (tens u)) (under (tens u)); tens = tens u })).tens)
        ((cond {A = Decimal} b (record { digits = 10 ^ 16; tens = tens u + 1 }) (record { digits = closest (over u (tens u)) (under (tens u)); tens = tens u })).digits
        * under (cond {A = Decimal} b (record { digits = 10 ^ 16; tens = tens u + 1 }) (record { digits = closest (over u (tens u)) (under (tens u)); tens = tens u })).tens)
    go true f n =
        subst (λ (t : ℕ). Near (over u t) (10 ^ 16 * under t)) (one (tens u))
        (near_same (over u (tens u)) (10 ^ 17 * under (tens u)) (over u (suc (tens u))) (10 ^ 16 * under (suc (tens u)))
        (some (over u (tens u)) (under (tens u)) (under_pos (tens u)) (tens_reach u p h))
        (carry (over u (tens u)) (under (tens u)) (over u (suc (tens u))) (under (suc (tens u))) (next_ten u (tens u)))
        (subst (λ (d : ℕ). Near (over u (tens u)) (d * under (tens u))) (f refl) n))
    go false f n = n

-- ---- read back: num / den is digits * 10 ^ (t - 340)

pub read_near : (u d t num den : ℕ) → 0 < u → num * 10 ^ (340 - t) ≡ d * 10 ^ (t - 340) * den → Near (over u t) (d * under t) → Near (u * den) (num * 2 ^ 1074)
read_near u d t num den p e h =
    near_same (over u t) (d * under t) (u * den) (num * 2 ^ 1074) (mul-pos p (ten_pos (340 - t))) (cross u d num den (10 ^ (340 - t)) (10 ^ (t - 340)) (2 ^ 1074) e) h
  where
    cross : (u d num den a b c : ℕ) → num * a ≡ d * b * den → u * a * (num * c) ≡ u * den * (d * (b * c))
    cross u d num den a b c e = let p = ap (λ (z : ℕ). u * c * z) e in omega (arith, p)
