-- The weight of a number's first decimal digit: `tens`, from the number of its binary digits. Assumes nothing.
use mathlib.Core.Path.{◌≡◌, refl, sym, ap, ◌∙◌, subst}
use mathlib.Core.Bool.{Bool, true, false, cond, ◌&&◌}
use mathlib.Core.Logic.{inl, inr}
use Prim.Native.Nat.{ℕ, zero, suc, ◌+◌, ◌-◌, ◌*◌, ◌^◌, ◌≤◌, ◌<◌}
use native.Mathlib.Nat.{le_trans, le_of_lt, lt_of_lt_of_le, lt_of_le_of_lt, not-le_of_lt, mul-le-mul_left, mul-le-mul_right, mul-lt-mul_of_pos_right, mul-pos, eq-or-lt_of_le, pow-succ', le_of_mul-le-mul_right, lt_of_mul-lt-mul_right}
use native.Mathlib.Omega.{arith}
use lib.Dec.{T, leb, ltb, le→leb, leb→le, ltb→lt, lit≤}
use lib.Pow.{pow_pos}
use lib.Ieee.{size}
use lib.Ieee.Digits.{size-lt, size-le, size_reaches}
use lib.Ieee.Fits.{and_l, and_r}
use lib.Ieee.Bits.{is_true}
use Rattle.rounding.proofs.Choose.{le_or_lt}
use Rattle.text_decimal_write.specs.Decimals.{over, under, reaches, largest, tens}
use Rattle.text_decimal_write.specs.Room.{guess_of}
use Rattle.text_limbs.proofs.Tens.{ten_pos, ten_mono}

pub under_pos : (t : ℕ) → 0 < under t
under_pos t = mul-pos (ten_pos (t - 340)) (pow_pos 1074)

-- ---- one ten more is a tenth of the fraction

pub next_ten : (u t : ℕ) → over u t * under (suc t) ≡ 10 * over u (suc t) * under t
next_ten u t = elim (le_or_lt 340 t) [
  | inl h ↦
      ap (λ (z : ℕ). u * 10 ^ z * under (suc t)) (none t h)
      ∙ ap (λ (z : ℕ). u * 10 ^ 0 * (z * 2 ^ 1074)) (ap (λ (z : ℕ). 10 ^ z) (up t h) ∙ pow-succ' 10 (t - 340))
      ∙ high (u * 10 ^ 0) (10 ^ (t - 340)) (2 ^ 1074)
      ∙ sym (ap (λ (z : ℕ). 10 * (u * 10 ^ z) * under t) (none_next t h))
  | inr h ↦
      ap (λ (z : ℕ). u * z * under (suc t)) (ap (λ (z : ℕ). 10 ^ z) (down t h) ∙ pow-succ' 10 (340 - suc t))
      ∙ ap (λ (z : ℕ). u * (10 * 10 ^ (340 - suc t)) * (10 ^ z * 2 ^ 1074)) (flat t h)
      ∙ low u (10 ^ (340 - suc t)) (under t)
]
  where
    none : (t : ℕ) → 340 ≤ t → 340 - t ≡ 0
    none t h = omega arith

    none_next : (t : ℕ) → 340 ≤ t → 340 - suc t ≡ 0
    none_next t h = omega arith

    up : (t : ℕ) → 340 ≤ t → suc t - 340 ≡ suc (t - 340)
    up t h = omega arith

    down : (t : ℕ) → t < 340 → 340 - t ≡ suc (340 - suc t)
    down t h = omega arith

    flat : (t : ℕ) → t < 340 → suc t - 340 ≡ t - 340
    flat t h = omega arith

    high : (a b c : ℕ) → a * (10 * b * c) ≡ 10 * a * (b * c)
    high a b c = omega arith

    low : (u a b : ℕ) → u * (10 * a) * b ≡ 10 * (u * a) * b
    low u a b = omega arith

-- the fraction at t is 10 ^ 17 or more where that at t + 1 is 10 ^ 16 or more
pub reach_next : (u t : ℕ) → 10 ^ 17 * under t ≤ over u t → 10 ^ 16 * under (suc t) ≤ over u (suc t)
reach_next u t h = go (over u t) (under t) (over u (suc t)) (under (suc t)) (under_pos t) (next_ten u t) h
  where
    go : (a b c d : ℕ) → 0 < b → a * d ≡ 10 * c * b → 10 ^ 17 * b ≤ a → 10 ^ 16 * d ≤ c
    go a b c d B e h =
        le_of_mul-le-mul_right {k = b}
        (let p = mul-le-mul_right d h in
        omega (arith, p))
        B

pub short_next : (u t : ℕ) → over u t < 10 ^ 17 * under t → over u (suc t) < 10 ^ 16 * under (suc t)
short_next u t h = go (over u t) (under t) (over u (suc t)) (under (suc t)) (under_pos (suc t)) (next_ten u t) h
  where
    go : (a b c d : ℕ) → 0 < d → a * d ≡ 10 * c * b → a < 10 ^ 17 * b → c < 10 ^ 16 * d
    go a b c d D e h =
        lt_of_mul-lt-mul_right b
        (let p = mul-lt-mul_of_pos_right h D in
        omega (arith, p))

-- ---- fewer tens are reached too

back : (u t : ℕ) → 10 ^ 16 * under (suc t) ≤ over u (suc t) → 10 ^ 16 * under t ≤ over u t
back u t h =
    le_trans (mul-le-mul_left (10 ^ 16) (mul-le-mul_right (2 ^ 1074) (ten_mono (more t)))) (le_trans h (mul-le-mul_left u (ten_mono (fewer t))))
  where
    more : (t : ℕ) → t - 340 ≤ suc t - 340
    more t = omega arith

    fewer : (t : ℕ) → 340 - suc t ≤ 340 - t
    fewer t = omega arith

never : (u t k : ℕ) → over u (suc t) < 10 ^ 16 * under (suc t) → 10 ^ 16 * under (suc t + k) ≤ over u (suc t + k) → ⊥
never u t zero h l = not-le_of_lt h (subst (λ (z : ℕ). 10 ^ 16 * under z ≤ over u z) (none (suc t)) l)
  where
    none : (n : ℕ) → n + 0 ≡ n
    none n = omega arith
never u t (suc k) h l = never u t k h (back u (suc t + k) (subst (λ (z : ℕ). 10 ^ 16 * under z ≤ over u z) (one (suc t) k) l))
  where
    one : (n k : ℕ) → n + suc k ≡ suc (n + k)
    one n k = omega arith

reached : (u t : ℕ) → 10 ^ 16 * under t ≤ over u t → largest u t ≡ t
unfolding largest
reached u zero h = refl
reached u (suc t) h = ap (λ (b : Bool). cond b (suc t) (largest u t)) (is_true (reaches u (suc t)) (le→leb (10 ^ 16 * under (suc t)) (over u (suc t)) h))

passed : (u t k : ℕ) → 10 ^ 16 * under t ≤ over u t → over u (suc t) < 10 ^ 16 * under (suc t) → largest u (k + t) ≡ t
unfolding largest
passed u t zero h l = ap (λ (z : ℕ). largest u z) (none t) ∙ reached u t h
  where
    none : (n : ℕ) → 0 + n ≡ n
    none n = omega arith
passed u t (suc k) h l = ap (λ (z : ℕ). largest u z) (one k t) ∙ go (reaches u (suc (k + t))) (leb→le (10 ^ 16 * under (suc (k + t))) (over u (suc (k + t)))) (passed u t k h l)
  where
    one : (k t : ℕ) → suc k + t ≡ suc (k + t)
    one k t = omega arith

    turn : (k t : ℕ) → suc (k + t) ≡ suc t + k
    turn k t = omega arith

    go : (b : Bool) → (T b → 10 ^ 16 * under (suc (k + t)) ≤ over u (suc (k + t))) → largest u (k + t) ≡ t → cond b (suc (k + t)) (largest u (k + t)) ≡ t
    go true f i = absurd (never u t k l (subst (λ (z : ℕ). 10 ^ 16 * under z ≤ over u z) (turn k t) (f tt)))
    go false f i = i

pub tens_are : (u t : ℕ) → t ≤ 632 → 10 ^ 16 * under t ≤ over u t → over u t < 10 ^ 17 * under t → tens u ≡ t
unfolding tens
tens_are u t m h l = ap (λ (z : ℕ). largest u z) (all t m) ∙ passed u t (632 - t) h (short_next u t l)
  where
    all : (t : ℕ) → t ≤ 632 → 632 ≡ 632 - t + t
    all t m = omega arith

-- ---- the guess, tried for every number of binary digits

-- u from 2 ^ y up to 2 ^ (y + 1): the guess reaches, and one more than it is short
abbrev good_low : ℕ → Bool
good_low y = leb (10 ^ 16 * under (guess_of (suc y))) (over (2 ^ y) (guess_of (suc y)))

abbrev good_high : ℕ → Bool
good_high y = ltb (over (2 ^ suc y) (suc (guess_of (suc y)))) (10 ^ 17 * under (suc (guess_of (suc y))))

abbrev good : ℕ → Bool
good y = good_low y && good_high y

abbrev each : ℕ → Bool
each zero = true
each (suc n) = good n && each n

all_good : (n y : ℕ) → T (each n) → y < n → T (good y)
all_good zero y t h = absurd (omega arith)
all_good (suc n) y t h = elim (eq-or-lt_of_le (less n y h)) [
  | inl e ↦ subst (λ (z : ℕ). T (good z)) (sym e) (and_l (good n) (each n) t)
  | inr l ↦ all_good n y (and_r (good n) (each n) t) l
]
  where
    less : (n y : ℕ) → y < suc n → y ≤ n
    less n y h = omega arith

tried : T (each 2098)
tried = tt

-- ---- what the guess is worth

pub record Guessed (u t : ℕ) : Type 0 where
  pub reach : 10 ^ 16 * under t ≤ over u t
  pub short : over u (suc t) < 10 ^ 17 * under (suc t)
  pub few : t < 632
  pub below : over u t < 10 ^ 18 * under t
  pub fits : over u t < 2 ^ 2304

pub guessed : (u : ℕ) → 0 < u → u < 2 ^ 2098 → Guessed u (guess_of (size u))
guessed u p h =
    let z : ℕ = size u in
    let Z : 0 < z = some u p in
    let m : z ≤ 2098 = size-le u 2098 h in
    let g : T (good (z - 1)) = all_good 2098 (z - 1) tried (less z Z m) in
    let e : suc (z - 1) ≡ z = back_one z Z in
    let lo : 2 ^ (z - 1) ≤ u = size_reaches u (z - 1) (last z Z) in
    let hi : u < 2 ^ suc (z - 1) = subst (λ (x : ℕ). u < 2 ^ x) (sym e) (size-lt u) in
    subst (λ (x : ℕ). Guessed u (guess_of x)) e
    (make (guess_of (suc (z - 1)))
    (le_trans (leb→le _ _ (and_l (good_low (z - 1)) (good_high (z - 1)) g)) (mul-le-mul_right (10 ^ (340 - guess_of (suc (z - 1)))) lo))
    (lt_of_le_of_lt (mul-le-mul_right (10 ^ (340 - suc (guess_of (suc (z - 1))))) (le_of_lt hi)) (ltb→lt _ _ (and_r (good_low (z - 1)) (good_high (z - 1)) g)))
    (subst (λ (x : ℕ). guess_of x < 632) (sym e) (small z m)))
  where
    some : (u : ℕ) → 0 < u → 0 < size u
    some u p = elim (eq-or-lt_of_le (zero_least (size u))) [
      | inl e ↦ absurd (not-le_of_lt (subst (λ (x : ℕ). u < 2 ^ x) (sym e) (size-lt u)) p)
      | inr l ↦ l
    ]
      where
        zero_least : (n : ℕ) → 0 ≤ n
        zero_least n = omega arith

    less : (z : ℕ) → 0 < z → z ≤ 2098 → z - 1 < 2098
    less z a b = omega arith

    back_one : (z : ℕ) → 0 < z → suc (z - 1) ≡ z
    back_one z a = omega arith

    last : (z : ℕ) → 0 < z → z - 1 < z
    last z a = omega arith

    small : (z : ℕ) → z ≤ 2098 → guess_of z < 632
    small z m = omega arith

    go : (a b c d : ℕ) → 0 < d → a * d ≡ 10 * c * b → c < 10 ^ 17 * d → 0 < b → a < 10 ^ 18 * b
    go a b c d D e l B =
        lt_of_mul-lt-mul_right d
        (let q = mul-lt-mul_of_pos_right l B in
        omega (arith, q))

    make : (t : ℕ) → 10 ^ 16 * under t ≤ over u t → over u (suc t) < 10 ^ 17 * under (suc t) → t < 632 → Guessed u t
    make t a b c =
        let d : over u t < 10 ^ 18 * under t = go (over u t) (under t) (over u (suc t)) (under (suc t)) (under_pos (suc t)) (next_ten u t) b (under_pos t) in
        record { reach = a; short = b; few = c; below = d; fits = fit t d }
      where
        none : (t : ℕ) → t ≤ 340 → t - 340 ≡ 0
        none t l = omega arith

        zero_up : (t : ℕ) → 340 < t → 340 - t ≡ 0
        zero_up t l = omega arith

        one : (u : ℕ) → u ≡ u * 1
        one u = omega arith

        fit : (t : ℕ) → over u t < 10 ^ 18 * under t → over u t < 2 ^ 2304
        fit t d = elim (le_or_lt t 340) [
          | inl l ↦ lt_of_lt_of_le (subst (λ (x : ℕ). over u t < 10 ^ 18 * (10 ^ x * 2 ^ 1074)) (none t l) d) (lit≤ tt)
          | inr l ↦ subst (λ (x : ℕ). u * 10 ^ x < 2 ^ 2304) (sym (zero_up t l)) (subst (λ (x : ℕ). x < 2 ^ 2304) (one u) (lt_of_lt_of_le h (lit≤ tt)))
        ]
