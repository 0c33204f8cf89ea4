-- The 17 digits: from the limbs, which hold the number over a power of ten, times 2 ^ 1074 and cut. Assumes nothing.
use mathlib.Core.Path.{◌≡◌, refl, sym, ap, ◌∙◌, subst}
use mathlib.Core.Bool.{Bool, false, not, ◌||◌}
use Prim.Native.Nat.{ℕ, suc, ◌+◌, ◌-◌, ◌*◌, ◌/◌, ◌%◌, ◌^◌, ◌≤◌, ◌<◌}
use native.Mathlib.Nat.{le_of_eq, lt_of_lt_of_le, lt_of_le_of_lt, mul-pos, div-div-eq-div-mul, div-add-mod', mod-lt, div-lt_iff_lt-mul, le-div_iff_mul-le, mul-one}
use native.Mathlib.Omega.{arith}
use lib.Dec.{eqb, lit<}
use lib.Pow.{pow_pos, pow_mono, shl_lt}
use lib.Ieee.Nearest.{closest, closest_same}
use Rattle.text_decimal_write.specs.declared.Decimal.{Decimal}
use Rattle.text_decimal_write.specs.Decimals.{over, under, settled, decimal_of}
use Rattle.text_limbs.specs.Remains.{CutBy, halved_of}
use Rattle.text_limbs.proofs.Tens.{ten_pos, cut_none, cut_more}
use Rattle.text_limbs.proofs.Halves.{halved_closest}
use Rattle.text_decimal_write.proofs.First.{under_pos, next_ten, reach_next, tens_are, Guessed}

-- ---- to the nearest

pub nearest_is : (num den v w : ℕ) (rest more : Bool) → 0 < den → CutBy num den v rest → w ≡ v / 2 ^ 1073 → more ≡ not (eqb (v % 2 ^ 1073) 0)
    → halved_of w (rest || more) ≡ closest num (den * 2 ^ 1074)
nearest_is num den v w rest more D c f g =
    sym
    (ap (λ (z : ℕ). closest num z) (half den (2 ^ 1073) (2 ^ 1074) refl)
    ∙ halved_closest num (den * 2 ^ 1073) w (rest || more) (mul-pos D (pow_pos 1073))
    (subst (λ (b : Bool). CutBy num (den * 2 ^ 1073) w (rest || b)) (sym g)
    (cut_more num den v w (2 ^ 1073) (v % 2 ^ 1073) rest D (pow_pos 1073) c
    (sym (ap (λ (z : ℕ). z * 2 ^ 1073 + v % 2 ^ 1073) f ∙ div-add-mod' v (2 ^ 1073))) (mod-lt v (pow_pos 1073)))))
  where
    half : (d h t : ℕ) → t ≡ h * 2 → d * t ≡ d * h * 2
    half d h t e = let p = ap (λ (z : ℕ). d * z) e in omega (arith, p)

-- ---- a number of u units, with the tens guessed to be t

-- the limbs hold v, which is u units over 10 ^ (t - 340), cut; rest says whether something was cut off
pub record Scaled (u t v : ℕ) (rest : Bool) : Type 0 where
  pub guess : Guessed u t
  pub cut : CutBy (over u t) (10 ^ (t - 340)) v rest

-- the contract of `nearest`, for limbs that hold v
abbrev pub Nearest : ℕ → Bool → ℕ → Decimal → Type 0
Nearest v rest t r = (num den : ℕ) → 0 < den → CutBy num den v rest → r ≡ settled (closest num (den * 2 ^ 1074)) t

module _ {u t v : ℕ} {rest : Bool} (s : Scaled u t v rest) where
  -- the digits before the point
  whole : v / 2 ^ 1074 ≡ over u t / under t
  whole = ap (λ (z : ℕ). z / 2 ^ 1074) s.cut.whole ∙ div-div-eq-div-mul (over u t) (10 ^ (t - 340)) (2 ^ 1074)

  v_less : v < 10 ^ 18 * 2 ^ 1074
  v_less =
      subst (λ (z : ℕ). z < 10 ^ 18 * 2 ^ 1074) (sym s.cut.whole)
      ((div-lt_iff_lt-mul (ten_pos (t - 340))).1 (subst (λ (z : ℕ). over u t < z) (turn (10 ^ 18) (10 ^ (t - 340)) (2 ^ 1074)) s.guess.below))
    where
      turn : (a b c : ℕ) → a * (b * c) ≡ a * c * b
      turn a b c = omega arith

  pub whole_fits : v / 2 ^ 1074 < 2 ^ 64
  whole_fits = lt_of_lt_of_le ((div-lt_iff_lt-mul {y = 10 ^ 18} (pow_pos 1074)).1 v_less) (omega arith)

  half_fits : (w : ℕ) → w ≤ v → w / 2 ^ 1073 < 2 ^ 63
  half_fits w h = lt_of_lt_of_le ((div-lt_iff_lt-mul {y = 2 * 10 ^ 18} (pow_pos 1073)).1 (lt_of_lt_of_le (lt_of_le_of_lt h v_less) (le_of_eq refl))) (omega arith)

  pub first_fits : v / 2 ^ 1073 < 2 ^ 63
  first_fits = half_fits v (same v)
    where
      same : (v : ℕ) → v ≤ v
      same v = omega arith

  pub second_fits : (w r : ℕ) → v ≡ w * 10 + r → w / 2 ^ 1073 < 2 ^ 63
  second_fits w r e = half_fits w (omega arith)

  -- 17 digits, as guessed
  pub as_guessed : (r : Decimal) → Nearest v rest t r → v / 2 ^ 1074 < 10 ^ 17 → r ≡ decimal_of u
  unfolding decimal_of
  as_guessed r near h =
      near (over u t) (10 ^ (t - 340)) (ten_pos (t - 340)) s.cut
      ∙ ap (λ (z : ℕ). settled (closest (over u z) (under z)) z)
      (sym (tens_are u t (omega (arith, s.guess.few)) s.guess.reach ((div-lt_iff_lt-mul (under_pos t)).0 (subst (λ (z : ℕ). z < 10 ^ 17) whole h))))

  -- 18: one ten more
  pub one_more : (r : Decimal) (w q : ℕ) → v ≡ w * 10 + q → q < 10 → Nearest w (rest || not (eqb q 0)) (t + 1) r → 10 ^ 17 ≤ v / 2 ^ 1074 → r ≡ decimal_of u
  unfolding decimal_of
  one_more r w q e l near h =
      near (over u t) (10 ^ (t - 340) * 10) (mul-pos (ten_pos (t - 340)) (lit< tt)) (cut_more (over u t) (10 ^ (t - 340)) v w 10 q rest (ten_pos (t - 340)) (lit< tt) s.cut e l)
      ∙ ap (λ (z : ℕ). settled (closest (over u t) (10 ^ (t - 340) * 10 * 2 ^ 1074)) z) (next t)
      ∙ ap (λ (z : ℕ). settled z (suc t))
      (closest_same (over u t) (10 ^ (t - 340) * 10 * 2 ^ 1074) (over u (suc t)) (under (suc t)) (mul-pos (mul-pos (ten_pos (t - 340)) (lit< tt)) (pow_pos 1074)) (under_pos (suc t))
      (next_ten u t ∙ turn (over u (suc t)) (10 ^ (t - 340)) (2 ^ 1074)))
      ∙ ap (λ (z : ℕ). settled (closest (over u z) (under z)) z)
      (sym (tens_are u (suc t) s.guess.few (reach_next u t ((le-div_iff_mul-le (under_pos t)).0 (subst (λ (z : ℕ). 10 ^ 17 ≤ z) whole h))) s.guess.short))
    where
      next : (t : ℕ) → t + 1 ≡ suc t
      next t = omega arith

      turn : (o a b : ℕ) → 10 * o * (a * b) ≡ o * (a * 10 * b)
      turn o a b = omega arith

-- ---- the limbs over a power of ten

pub scaled_up : (v w t : ℕ) → t ≤ 340 → w ≡ v * 10 ^ (340 - t) → CutBy (v * 10 ^ (340 - t)) (10 ^ (t - 340)) w false
scaled_up v w t h e =
    subst (λ (z : ℕ). CutBy (v * 10 ^ (340 - t)) (10 ^ z) w false) (sym (none t h)) (subst (λ (z : ℕ). CutBy z 1 w false) e (cut_none w))
  where
    none : (t : ℕ) → t ≤ 340 → t - 340 ≡ 0
    none t h = omega arith

pub scaled_down : (v w t : ℕ) (rest : Bool) → 340 < t → w ≡ v / 10 ^ (t - 340) → rest ≡ not (eqb (v % 10 ^ (t - 340)) 0) → CutBy (v * 10 ^ (340 - t)) (10 ^ (t - 340)) w rest
scaled_down v w t rest h e f =
    subst (λ (z : ℕ). CutBy z (10 ^ (t - 340)) w rest) (sym (ap (λ (z : ℕ). v * 10 ^ z) (none t h) ∙ mul-one v)) (record { whole = e; left = f })
  where
    none : (t : ℕ) → 340 < t → 340 - t ≡ 0
    none t h = omega arith

pub units_some : (sig place : ℕ) → 0 < sig → 0 < sig * 2 ^ place
units_some sig place h = mul-pos h (pow_pos place)

pub units_few : (sig place : ℕ) → sig < 2 ^ 53 → place < 2046 → sig * 2 ^ place < 2 ^ 2098
units_few sig place h k = lt_of_lt_of_le (shl_lt 53 place h) (pow_mono (sums place k))
  where
    sums : (n : ℕ) → n < 2046 → 53 + n ≤ 2098
    sums n k = omega arith
