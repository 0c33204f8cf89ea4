-- digits * 10 ^ up / 10 ^ down as one power of ten, up or down. Assumes nothing.
use mathlib.Core.Path.{◌≡◌, sym, ap, ◌∙◌, subst}
use mathlib.Core.Bool.{Bool, false}
use Prim.Native.Nat.{ℕ, zero, suc, ◌+◌, ◌-◌, ◌*◌, ◌/◌, ◌^◌, ◌≤◌, ◌<◌}
use native.Mathlib.Nat.{le_trans, le_of_eq, lt_of_lt_of_le, lt_of_le_of_lt, le_of_lt, mul-le-mul, mul-le-mul_right, mul-lt-mul_of_pos_right, mul_assoc, mul-one, div-le_self, zero-mul}
use native.Mathlib.Omega.{arith}
use lib.Dec.{lit<}
use lib.Pow.{pow-add}
use lib.Ieee.{inf, binary64, round, units}
use lib.Ieee.Scale.{round_same}
use Rattle.text_limbs.specs.Remains.{CutBy}
use Rattle.text_limbs.proofs.Tens.{ten_pos, ten_mono, cut_none}
use Rattle.text_decimal_read.proofs.Extremes.{too_large, too_small}

-- ---- a product

pub product_fits : (d e : ℕ) → d < 2 ^ 64 → e < 310 → d * 2 ^ 1088 * 10 ^ e < 2 ^ 2200
product_fits d e h k = lt_of_le_of_lt (mul-le-mul (mul-le-mul_right (2 ^ 1088) (le_of_lt h)) (ten_mono (le_of_lt k))) (lit< tt)

pub product_cut : (d e v : ℕ) → v ≡ d * 2 ^ 1088 * 10 ^ e → CutBy (d * 10 ^ e * 2 ^ 1088) 1 v false
product_cut d e v h = subst (λ (z : ℕ). CutBy z 1 v false) (h ∙ turn d (2 ^ 1088) (10 ^ e)) (cut_none v)
  where
    turn : (d u t : ℕ) → d * u * t ≡ d * t * u
    turn d u t = omega arith

-- ---- a quotient

pub quotient_fits : (d e v : ℕ) → d < 2 ^ 64 → v ≡ d * 2 ^ 1088 / 10 ^ e → v < 2 ^ 2200
quotient_fits d e v h k =
    subst (λ (z : ℕ). z < 2 ^ 2200) (sym k) (lt_of_le_of_lt (le_trans (div-le_self (d * 2 ^ 1088) (10 ^ e)) (mul-le-mul_right (2 ^ 1088) (le_of_lt h))) (lit< tt))

-- ---- one power of ten

pub up_only : (s : Bool) (d up down : ℕ) → down ≤ up → round binary64 s (d * 10 ^ (up - down)) 1 ≡ round binary64 s (d * 10 ^ up) (10 ^ down)
up_only s d up down h =
    round_same binary64 s (d * 10 ^ (up - down)) 1 (d * 10 ^ up) (10 ^ down) (lit< tt) (ten_pos down)
    (mul_assoc d (10 ^ (up - down)) (10 ^ down) ∙ ap (λ (z : ℕ). d * z) (sym (pow-add 10 (up - down) down) ∙ ap (λ (z : ℕ). 10 ^ z) (back up down h)) ∙ sym (mul-one (d * 10 ^ up)))
  where
    back : (u d : ℕ) → d ≤ u → u - d + d ≡ u
    back u d h = omega arith

pub down_only : (s : Bool) (d up down : ℕ) → up ≤ down → round binary64 s d (10 ^ (down - up)) ≡ round binary64 s (d * 10 ^ up) (10 ^ down)
down_only s d up down h =
    round_same binary64 s d (10 ^ (down - up)) (d * 10 ^ up) (10 ^ down) (ten_pos (down - up)) (ten_pos down)
    (ap (λ (z : ℕ). d * 10 ^ z) (back up down h) ∙ ap (λ (z : ℕ). d * z) (pow-add 10 up (down - up)) ∙ sym (mul_assoc d (10 ^ up) (10 ^ (down - up))))
  where
    back : (u d : ℕ) → u ≤ d → d ≡ u + (d - u)
    back u d h = omega arith

pub none : (s : Bool) (d up down : ℕ) → d ≡ 0 → round binary64 s (d * 10 ^ up) (10 ^ down) ≡ units binary64 s 0 0
none s d up down e =
    too_small s (d * 10 ^ up) (10 ^ down)
    (subst (λ (z : ℕ). z < 10 ^ down) (sym (ap (λ (z : ℕ). z * 10 ^ up * 2 ^ 1075) e ∙ ap (λ (z : ℕ). z * 2 ^ 1075) (zero-mul (10 ^ up)) ∙ zero-mul (2 ^ 1075))) (ten_pos down))

pub large : (s : Bool) (d up down : ℕ) → 0 < d → down ≤ up → 310 ≤ up - down → round binary64 s (d * 10 ^ up) (10 ^ down) ≡ inf s
large s d up down p h k =
    too_large s (d * 10 ^ up) (10 ^ down) (ten_pos down)
    (le_trans (le_of_eq (sym (pow-add 10 310 down))) (le_trans (ten_mono (sums up down h k)) (more d (10 ^ up) p)))
  where
    sums : (u d : ℕ) → d ≤ u → 310 ≤ u - d → 310 + d ≤ u
    sums u d h k = omega arith

    more : (d t : ℕ) → 0 < d → t ≤ d * t
    more zero t p = absurd (omega arith)
    more (suc d) t p = omega arith

pub small : (s : Bool) (d up down : ℕ) → d < 2 ^ 64 → 344 ≤ down - up → round binary64 s (d * 10 ^ up) (10 ^ down) ≡ units binary64 s 0 0
small s d up down h k =
    too_small s (d * 10 ^ up) (10 ^ down)
    (lt_of_lt_of_le (go d (10 ^ up) (2 ^ 1075) (ten_pos up) (lt_of_le_of_lt (mul-le-mul_right (2 ^ 1075) (le_of_lt h)) (lit< tt)))
    (le_trans (le_of_eq (sym (pow-add 10 344 up))) (ten_mono (sums up down k))))
  where
    sums : (u d : ℕ) → 344 ≤ d - u → 344 + u ≤ d
    sums u d k = omega arith

    go : (d t u : ℕ) → 0 < t → d * u < 10 ^ 344 → d * t * u < 10 ^ 344 * t
    go d t u p h = subst (λ (z : ℕ). z < 10 ^ 344 * t) (turn d t u) (mul-lt-mul_of_pos_right h p)
      where
        turn : (d t u : ℕ) → d * u * t ≡ d * t * u
        turn d t u = omega arith
