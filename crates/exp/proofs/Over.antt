-- The far case of an x above zero that is not above the overflow threshold: the pattern of y and n * 2 ^ 52 sum up to the pattern of infinity at most.
-- Assumes nothing.
use mathlib.Core.Path.{◌≡◌, refl, sym, subst}
use mathlib.Core.Bool.{Bool, true, false, true≢false}
use mathlib.Core.Logic.{inl, inr}
use Prim.Native.Nat.{ℕ, ◌+◌, ◌-◌, ◌*◌, ◌/◌, ◌^◌, ◌≤◌, ◌<◌, min}
use native.Mathlib.Nat.{le_trans, le_of_eq, lt_irrefl, lt_of_lt_of_le, lt_of_le_of_lt, lt_of_mul-lt-mul_right, mul-lt-mul_of_pos_right, mul_right_comm, div-lt_iff_lt-mul}
use native.Mathlib.Omega.{arith}
use borrow.Author.Tests.{ltb-false}
use lib.Pow.{pow_pos}
use lib.Dec.{T, lit<, lit≤}
use lib.IntN.{ℤ, pos, negsuc}
use lib.Ieee.{Float, nan, inf, fin, binary64, up, down, neg, add, sub, mul, lt, le, of_bits, to_unsigned, of_int, fits, is_nan}
use lib.Ieee.Fits.{sub-fits, down_pos}
use lib.Ieee.Exact.{HasValue}
use lib.Ieee.Order.{le_of_values}
use lib.Ieee.Positive.{positive, through}
use Rattle.number.specs.Number.{◌⊕◌, ◌⊖◌, ◌⊗◌, pattern_of, one}
use Rattle.number.specs.Table.{◌!◌}
use Rattle.rounding.specs.Bounds.{Within}
use Rattle.rounding.proofs.Choose.{le_or_lt}
use Rattle.rounding.proofs.Signed.{le→units}
use Rattle.rounding.proofs.Monotone.{add_monotone}
use Rattle.rounding.proofs.Intervals.{Up, exact, up_mul, up_add, wider, within_number}
use Rattle.rounding.proofs.Pattern.{pattern_units, units_mono, pattern}
use Rattle.rounding.proofs.Field.{is_positive}
use Rattle.exp.specs.Exp.{inv_ln2, halves, ln2_hi, ln2_lo, over_at, signed, exp_whole}
use Rattle.exp.specs.Range.{Sized}
use Rattle.exp.proofs.Part.{Bounded, part_bound, part_fits}
use Rattle.exp.proofs.Far.{sgn, t_of, half_up}
use Rattle.exp.proofs.Middle.{Middle}
use Rattle.exp.proofs.Reduced.{Ready, Made, far_part, far_sized, ready, y_at}
use Rattle.exp.proofs.Top.{lo_top, hi_top, part_top}

-- y for an n
abbrev far_at : Bool → Float → ℕ → Float
far_at s x n = far_part s x (of_int binary64 (pos n))

pub far_y : (s : Bool) (x : Float) → Sized s x → Ready (far_at s x (exp_whole x (sgn s)))
far_y s x h = let w = far_sized s x h in ready _ _ w.hi_up w.lo_up

-- x is at most the overflow threshold, 6243314768165359 / 2 ^ 43
abbrev Cap : ℕ → ℤ → Type 0
Cap m e = m * up e * 2 ^ 43 ≤ 6243314768165359 * down e

-- n is then at most 1024
cut_le : (x : Float) (a c k : ℕ) → 0 < c → a < (k + 1) * c → Within x a c → to_unsigned 64 x ≤ k
unfolding to_unsigned
cut_le nan a c k C h w = absurd w
cut_le (inf s) a c k C h w = absurd w
cut_le (fin true m e) a c k C h w = omega arith
cut_le (fin false m e) a c k C h w =
    go (m * up e / down e) k
    ((div-lt_iff_lt-mul (down_pos e)).1
    (lt_of_mul-lt-mul_right c (lt_of_le_of_lt w (lt_of_lt_of_le (mul-lt-mul_of_pos_right h (down_pos e)) (le_of_eq (mul_right_comm (k + 1) c (down e)))))))
  where
    go : (q k : ℕ) → q < k + 1 → min q (2 ^ 64 - 1) ≤ k
    go q k h = omega arith

inv_up : Up inv_ln2 94549 65536
unfolding of_bits
inv_up = record { pos = lit< tt; is = lit≤ tt }

cap_few : (m : ℕ) (e : ℤ) → Cap m e → exp_whole (fin false m e) 0 ≤ 1024
unfolding exact signed exp_whole
cap_few m e h =
    let x : Up (fin false m e) 46516797 65536 = record { pos = lit< tt; is = through (m * up e) 6243314768165359 46516797 (down e) (2 ^ 43) 65536 (pow_pos 43) h (lit≤ tt) } in
    cut_le (inv_ln2 ⊗ fin false m e ⊕ halves ! 0) _ 4294967296 1024 (lit< tt) (lit< tt) (up_add tt (up_mul tt inv_up x) (wider 2147483648 4294967296 tt (half_up false))).is

-- the pattern of what is at most 1
one_value : HasValue one false (2 ^ 1074) (2 ^ 1074)
unfolding of_bits
one_value = (refl, refl)

one_pattern : (y : Float) → T (fits binary64 y) → T (positive y) → T (le y one) → pattern_of y ≤ 1023 * 2 ^ 52
one_pattern y f p h = elim (le_or_lt (pattern_of y) (1023 * 2 ^ 52)) [
  | inl l ↦ l
  | inr g ↦
      absurd
      (lt_irrefl (2 ^ 1074)
      (lt_of_lt_of_le (lit< tt)
      (le_trans (units_mono (1023 * 2 ^ 52 + 1) (pattern_of y) (next (pattern_of y) g)) (le→units y one (pattern_units (pattern_of y)) (2 ^ 1074) (2 ^ 1074) (pow_pos 1074) (pattern y f p).value one_value h))))
]
  where
    next : (b : ℕ) → 1023 * 2 ^ 52 < b → 1023 * 2 ^ 52 + 1 ≤ b
    next b g = omega arith

-- n = 1024: hi is at most what the threshold leaves, so y is at most 1
over_value : HasValue over_at false 6243314768165359 (2 ^ 43)
unfolding of_bits
over_value = (refl, refl)

cap_le : (m : ℕ) (e : ℤ) → Cap m e → T (le (fin false m e) over_at)
cap_le m e h = le_of_values (fin false m e) over_at (m * up e) (down e) 6243314768165359 (2 ^ 43) (down_pos e) (pow_pos 43) (refl, refl) over_value h

abbrev hi_part : Float
hi_part = fin false 0xB172_17F7 (negsuc 21)

hi_is : t_of false 1024 ⊗ ln2_hi ! 0 ≡ hi_part
unfolding mul of_bits signed of_int
hi_is = refl

lo_is : t_of false 1024 ⊗ ln2_lo ! 0 ≡ lo_top
unfolding mul of_bits signed of_int
lo_is = refl

hi_top_lem : (x : Float) → T (le x over_at) → Up (x ⊖ hi_part) 384 1024 → T (le (x ⊖ hi_part) hi_top)
unfolding sub neg of_bits
hi_top_lem x h u = add_monotone binary64 x over_at (neg hi_part) (neg hi_part) h (unfold le in tt) (within_number _ 384 1024 u.is) (unfold add is_nan in tt)

top_le : (x : Float) → T (le x over_at) → Up (x ⊖ t_of false 1024 ⊗ ln2_hi ! 0) 384 1024 → T (le (far_at false x 1024) one)
top_le x h u =
    let v : Up (x ⊖ hi_part) 384 1024 = subst (λ (z : Float). Up (x ⊖ z) 384 1024) hi_is u in
    rw (hi_is, lo_is) (part_top (x ⊖ hi_part) (sub-fits binary64 x hi_part) v (hi_top_lem x h v))

far_in : (x : Float) (n : ℕ) → T (le x over_at) → n ≤ 1024 → Up (x ⊖ t_of false n ⊗ ln2_hi ! 0) 384 1024 → Bounded (far_at false x n) → Ready (far_at false x n) → pattern_of (far_at false x n) + n * 2 ^ 52 ≤ 2047 * 2 ^ 52
far_in x n h l u w r = elim (le_or_lt n 1023) [
  | inl g ↦ sums (pattern_of (far_at false x n)) n r.exponent g
  | inr g ↦
      let e : 1024 ≡ n = is n g l in
      subst (λ (k : ℕ). pattern_of (far_at false x n) + k * 2 ^ 52 ≤ 2047 * 2 ^ 52) e
      (top_sum (pattern_of (far_at false x n))
      (one_pattern (far_at false x n) (part_fits _ _) (is_positive (far_at false x n) 351 1024 (lit< tt) w.from.is)
      (subst (λ (k : ℕ). Up (x ⊖ t_of false k ⊗ ln2_hi ! 0) 384 1024 → T (le (far_at false x k) one)) e (top_le x h) u)))
]
  where
    sums : (b n : ℕ) → Middle b → n ≤ 1023 → b + n * 2 ^ 52 ≤ 2047 * 2 ^ 52
    sums b n m h = omega arith

    is : (n : ℕ) → 1023 < n → n ≤ 1024 → 1024 ≡ n
    is n g l = omega arith

    top_sum : (b : ℕ) → b ≤ 1023 * 2 ^ 52 → b + 1024 * 2 ^ 52 ≤ 2047 * 2 ^ 52
    top_sum b h = omega arith

over_cap : (m : ℕ) (e : ℤ) → lt over_at (fin false m e) ≡ false → Cap m e
unfolding lt of_bits
over_cap m e h = ltb-false (6243314768165359 * 1 * down e) (m * up e * 2 ^ 43) h

pub far_sum : (x : Float) → Sized false x → lt over_at x ≡ false → pattern_of (far_at false x (exp_whole x 0)) + exp_whole x 0 * 2 ^ 52 ≤ 0x7ff0_0000_0000_0000
far_sum nan h o = absurd h.1
far_sum (inf t) h o = absurd h.1
far_sum (fin true m e) h o = absurd (true≢false h.0)
far_sum (fin false m e) h o =
    let x : Float = fin false m e in
    let c : Cap m e = over_cap m e o in
    let w = far_sized false x h in
    far_in x (exp_whole x 0) (cap_le m e c) (cap_few m e c) w.hi_up (part_bound _ _ w.hi_up w.lo_up) (far_y false x h)

-- n, t and y as the code computes them
pub made_sum : {x : Float} {n : ℕ} {t y : Float} → Sized false x → lt over_at x ≡ false → Made false x n t y → pattern_of y + n * 2 ^ 52 ≤ 0x7ff0_0000_0000_0000
made_sum {x} {n} {t} {y} h o m =
    subst (λ (z : Float). pattern_of z + n * 2 ^ 52 ≤ 0x7ff0_0000_0000_0000) (sym (y_at m))
    (subst (λ (k : ℕ). pattern_of (far_at false x k) + k * 2 ^ 52 ≤ 0x7ff0_0000_0000_0000) (sym m.n_is) (far_sum x h o))
