-- The pattern of q * 2 ^ k units, for a q of 53 digits at most, and of 53 where k is above zero. Assumes nothing.
use mathlib.Core.Path.{◌≡◌, refl, sym, ap, ◌∙◌, subst}
use mathlib.Core.Bool.{Bool, true, false, cond}
use mathlib.Core.Logic.{inl, inr}
use Prim.Native.Nat.{ℕ, zero, suc, ◌+◌, ◌-◌, ◌*◌, ◌/◌, ◌^◌, ◌≤◌, ◌<◌}
use native.Mathlib.Nat.{le_antisymm, le_trans, le_of_eq, lt_of_lt_of_le, lt_of_le_of_lt, lt_of_not-le, not-le_of_lt, eq-or-lt_of_le, mul-le-mul_right, mul-div_cancel, div-one, pow-succ'}
use native.Mathlib.Omega.{arith}
use lib.Dec.{T, ltb, lit<, lit≤, lt→ltb, ltb→lt}
use lib.Pow.{pow-add, pow_mono, shl_lt, shl-shr}
use lib.Ieee.{Float, nan, inf, fin, binary64, up, down, size, odd, units, of_bits, to_bits}
use lib.Ieee.Digits.{size-le, size-lt}
use lib.Ieee.Fits.{odd-fits, down_pos}
use lib.Ieee.Bits.{of_bits-to_bits, is_true}
use lib.Ieee.Exact.{HasValue, odd_sign}
use Rattle.number.specs.Number.{float}
use Rattle.text_decimal_read.specs.Normal.{Normal, sign_part}

pub size_is : (n z : ℕ) → 2 ^ z ≤ n → n < 2 ^ suc z → size n ≡ suc z
size_is n z a b = le_antisymm (size-le n (suc z) b) (lt_of_not-le (λ (h : size n ≤ z). not-le_of_lt (size-lt n) (le_trans (pow_mono h) a)))

-- the pattern of n units, without the sign
abbrev pub pattern_of : ℕ → ℕ
pattern_of n = (size n - 53) * 2 ^ 52 + n / 2 ^ (size n - 53)

pub to_bits_lem : (x : Float) (s : Bool) (n : ℕ) → HasValue x s n (2 ^ 1074) → to_bits binary64 x ≡ sign_part s + pattern_of n
unfolding to_bits
to_bits_lem nan s n v = absurd v
to_bits_lem (inf t) s n v = absurd v
to_bits_lem (fin t m e) s n v =
    let u : m * up e * 2 ^ 1074 / down e ≡ n = ap (λ (z : ℕ). z / down e) v.1 ∙ mul-div_cancel n (down_pos e) in
    ap (λ (z : ℕ). cond t (2 ^ 63) 0 + (size z - 53) * 2 ^ 52 + z / 2 ^ (size z - 53)) u ∙ ap (λ (b : Bool). cond b (2 ^ 63) 0 + (size n - 53) * 2 ^ 52 + n / 2 ^ (size n - 53)) v.0
    ∙ assoc (cond s (2 ^ 63) 0) ((size n - 53) * 2 ^ 52) (n / 2 ^ (size n - 53))
  where
    assoc : (a b c : ℕ) → a + b + c ≡ a + (b + c)
    assoc a b c = omega arith

-- ---- q * 2 ^ k

plain : (q : ℕ) → q < 2 ^ 53 → pattern_of (q * 2 ^ 0) ≡ 0 * 2 ^ 52 + q
plain q h =
    let z : size (q * 2 ^ 0) - 53 ≡ 0 = none (size (q * 2 ^ 0)) (size-le (q * 2 ^ 0) 53 (subst (λ (n : ℕ). n < 2 ^ 53) (one q) h)) in
    ap (λ (j : ℕ). j * 2 ^ 52 + q * 2 ^ 0 / 2 ^ j) z ∙ ap (λ (n : ℕ). 0 * 2 ^ 52 + n) (div-one (q * 2 ^ 0) ∙ sym (one q))
  where
    none : (z : ℕ) → z ≤ 53 → z - 53 ≡ 0
    none z h = omega arith

    one : (q : ℕ) → q ≡ q * 1
    one q = omega arith

-- j digits are dropped, for which n is m * 2 ^ j
dropped : (m j n : ℕ) → 2 ^ 52 ≤ m → m < 2 ^ 53 → n ≡ m * 2 ^ j → pattern_of n ≡ j * 2 ^ 52 + m
dropped m j n a b e =
    let s : size n ≡ suc (52 + j) =
    size_is n (52 + j) (subst (λ (z : ℕ). 2 ^ (52 + j) ≤ z) (sym e) (le_trans (le_of_eq (pow-add 2 52 j)) (mul-le-mul_right (2 ^ j) a)))
    (subst (λ (z : ℕ). z < 2 ^ suc (52 + j)) (sym e) (lt_of_lt_of_le (shl_lt 53 j b) (pow_mono (same j)))) in
    let z : size n - 53 ≡ j = ap (λ (i : ℕ). i - 53) s ∙ less j in
    ap (λ (i : ℕ). i * 2 ^ 52 + n / 2 ^ i) z ∙ ap (λ (i : ℕ). j * 2 ^ 52 + i / 2 ^ j) e ∙ ap (λ (i : ℕ). j * 2 ^ 52 + i) (shl-shr m j)
  where
    same : (j : ℕ) → 53 + j ≤ suc (52 + j)
    same j = omega arith

    less : (j : ℕ) → suc (52 + j) - 53 ≡ j
    less j = omega arith

pub pattern_is : (q k : ℕ) → Normal q k → pattern_of (q * 2 ^ k) ≡ k * 2 ^ 52 + q
pattern_is q k h = elim (eq-or-lt_of_le h.most) [
  | inl e ↦
      dropped (2 ^ 52) (suc k) (q * 2 ^ k) (lit≤ tt) (lit< tt) (ap (λ (z : ℕ). z * 2 ^ k) e ∙ twice (2 ^ k) ∙ sym (ap (λ (z : ℕ). 2 ^ 52 * z) (pow-succ' 2 k))) ∙ next k q e
  | inr l ↦ at k h.full l
]
  where
    twice : (t : ℕ) → 2 ^ 53 * t ≡ 2 ^ 52 * (2 * t)
    twice t = omega arith

    next : (k q : ℕ) → q ≡ 2 ^ 53 → suc k * 2 ^ 52 + 2 ^ 52 ≡ k * 2 ^ 52 + q
    next k q e = omega arith

    at : (k : ℕ) → (0 < k → 2 ^ 52 ≤ q) → q < 2 ^ 53 → pattern_of (q * 2 ^ k) ≡ k * 2 ^ 52 + q
    at zero f l = plain q l
    at (suc k) f l = dropped q (suc k) (q * 2 ^ suc k) (f (some k)) l refl
      where
        some : (k : ℕ) → 0 < suc k
        some k = omega arith

-- ---- units, by their pattern

-- a pattern below infinity's is that of less than 2 ^ 2098 units
under : (q k : ℕ) → Normal q k → k * 2 ^ 52 + q < 0x7ff0_0000_0000_0000 → q * 2 ^ k < 2 ^ 2098
under q k h l = elim (eq-or-lt_of_le h.most) [
  | inl e ↦ lt_of_lt_of_le (shl_lt 54 k (full q e)) (pow_mono (less_full q k e l))
  | inr g ↦ lt_of_lt_of_le (shl_lt 53 k g) (pow_mono (less k l h.full))
]
  where
    full : (q : ℕ) → q ≡ 2 ^ 53 → q < 2 ^ 54
    full q e = omega arith

    less_full : (q k : ℕ) → q ≡ 2 ^ 53 → k * 2 ^ 52 + q < 0x7ff0_0000_0000_0000 → 54 + k ≤ 2098
    less_full q k e l = omega arith

    less : (k : ℕ) → k * 2 ^ 52 + q < 0x7ff0_0000_0000_0000 → (0 < k → 2 ^ 52 ≤ q) → 53 + k ≤ 2098
    less zero l f = lit≤ tt
    less (suc k) l f = let g = f (some k) in omega (arith, g)
      where
        some : (k : ℕ) → 0 < suc k
        some k = omega arith

over : (q k : ℕ) → Normal q k → 0x7ff0_0000_0000_0000 ≤ k * 2 ^ 52 + q → 2 ^ 2098 ≤ q * 2 ^ k
over q k h l = elim (eq-or-lt_of_le h.most) [
  | inl e ↦ subst (λ (z : ℕ). 2 ^ 2098 ≤ z * 2 ^ k) (sym e) (le_trans (pow_mono (more_full q k e l)) (le_of_eq (pow-add 2 53 k)))
  | inr g ↦ le_trans (le_trans (pow_mono (more k g l)) (le_of_eq (pow-add 2 52 k))) (mul-le-mul_right (2 ^ k) (h.full (some k g l)))
]
  where
    more_full : (q k : ℕ) → q ≡ 2 ^ 53 → 0x7ff0_0000_0000_0000 ≤ k * 2 ^ 52 + q → 2098 ≤ 53 + k
    more_full q k e l = omega arith

    more : (k : ℕ) → q < 2 ^ 53 → 0x7ff0_0000_0000_0000 ≤ k * 2 ^ 52 + q → 2098 ≤ 52 + k
    more k g l = omega arith

    some : (k : ℕ) → q < 2 ^ 53 → 0x7ff0_0000_0000_0000 ≤ k * 2 ^ 52 + q → 0 < k
    some k g l = omega arith

pub units_finite : (s : Bool) (q k : ℕ) → Normal q k → k * 2 ^ 52 + q < 0x7ff0_0000_0000_0000 → float (sign_part s + (k * 2 ^ 52 + q)) ≡ units binary64 s q k
unfolding units
units_finite s q k h l =
    let u : q * 2 ^ k < 2 ^ 2098 = under q k h l in
    let x : Float = odd 54 s q k 1074 in
    let b : to_bits binary64 x ≡ sign_part s + (k * 2 ^ 52 + q) =
    to_bits_lem x s (q * 2 ^ k) (odd_sign 54 s q k 1074) ∙ ap (λ (z : ℕ). sign_part s + z) (pattern_is q k h) in
    ap float (sym b)
    ∙ of_bits-to_bits binary64 x (odd-fits binary64 54 s q k (lt_of_le_of_lt h.most (lit< tt)) h.most u)
    ∙ sym (ap (λ (t : Bool). cond t x (inf s)) (is_true (ltb (q * 2 ^ k) (2 ^ 2098)) (lt→ltb (q * 2 ^ k) (2 ^ 2098) u)))

pub units_infinite : (s : Bool) (q k : ℕ) → Normal q k → 0x7ff0_0000_0000_0000 ≤ k * 2 ^ 52 + q → units binary64 s q k ≡ inf s
unfolding units
units_infinite s q k h l = go (ltb (q * 2 ^ k) (2 ^ 2098)) (ltb→lt (q * 2 ^ k) (2 ^ 2098))
  where
    go : (t : Bool) → (T t → q * 2 ^ k < 2 ^ 2098) → cond t (odd 54 s q k 1074) (inf s) ≡ inf s
    go true f = absurd (not-le_of_lt (f tt) (over q k h l))
    go false f = refl

pub infinity : (s : Bool) → float (sign_part s + 0x7ff0_0000_0000_0000) ≡ inf s
unfolding of_bits
infinity true = refl
infinity false = refl

pub not_a_number : float 0x7ff8_0000_0000_0000 ≡ nan
unfolding of_bits
not_a_number = refl

pub nothing_left : (s : Bool) → float (sign_part s + 0) ≡ units binary64 s 0 0
unfolding of_bits units
nothing_left true = refl
nothing_left false = refl
