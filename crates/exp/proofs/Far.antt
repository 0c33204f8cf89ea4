-- The exponential's far case: for |x| ≤ 746 the parts hi and lo are small, and so is n. Assumes nothing.
use mathlib.Core.Path.{◌≡◌, refl, sym, ap, ◌∙◌, subst}
use mathlib.Core.Bool.{Bool, true, false, not}
use Prim.Native.Nat.{ℕ, ◌+◌, ◌-◌, ◌*◌, ◌/◌, ◌^◌, ◌≤◌, ◌<◌, min}
use native.Mathlib.Nat.{le_trans, le_of_eq, mul-le-mul_right, mul-pos, mul_assoc, mul_right_comm, one-mul, mul-one, add-mul, div-mul-le_self, div-lt_iff_lt-mul, lt-suc_self}
use native.Mathlib.Numerals.{add-one}
use native.Mathlib.Omega.{arith}
use lib.Pow.{pow_pos}
use lib.Dec.{lit<, lit≤}
use lib.IntN.{ℤ, pos, negsuc}
use lib.Ieee.{Float, nan, inf, fin, binary64, up, down, neg, round, sum, add, sub, mul, of_bits, to_unsigned, of_int}
use lib.Ieee.Fits.{down_pos}
use lib.Ieee.Exact.{HasValue}
use lib.Ieee.Scale.{round_same}
use Rattle.number.specs.Number.{◌⊕◌, ◌⊖◌, ◌⊗◌}
use Rattle.number.specs.Table.{◌!◌}
use Rattle.rounding.specs.Bounds.{Within, From}
use Rattle.rounding.proofs.Negate.{neg_round}
use Rattle.rounding.proofs.Intervals.{Up, exact, wider, up_mul, up_add, within_difference}
use Rattle.rounding.proofs.Rounded.{rounded, exact_small, exact_signed}
use Rattle.exp.specs.Exp.{inv_ln2, halves, ln2_hi, ln2_lo, signed, exp_whole}
use Rattle.exp.proofs.Reduce.{small_rest, SmallRest, I, H}

-- the sign as the code has it
abbrev pub sgn : Bool → ℕ
sgn false = 0
sgn true = 1

-- fdlibm's t: n with the sign of x
abbrev pub t_of : Bool → ℕ → Float
t_of s n = signed (sgn s) (of_int binary64 (pos n))

inv_up : Up inv_ln2 3 2
unfolding of_bits
inv_up = record { pos = lit< tt; is = lit≤ tt }

pub ln2_lo_up : (s : Bool) → Up (ln2_lo ! sgn s) 1 4194304
unfolding of_bits
ln2_lo_up false = record { pos = lit< tt; is = lit≤ tt }
ln2_lo_up true = record { pos = lit< tt; is = lit≤ tt }

pub half_up : (s : Bool) → Up (halves ! sgn s) 1 2
unfolding of_bits
half_up false = record { pos = lit< tt; is = lit≤ tt }
half_up true = record { pos = lit< tt; is = lit≤ tt }

half_is : (s : Bool) → halves ! sgn s ≡ fin s 1 (negsuc 0)
unfolding of_bits
half_is false = refl
half_is true = refl

product_is : (s : Bool) (m : ℕ) (e : ℤ) → inv_ln2 ⊗ fin s m e ≡ round binary64 s (I * (m * up e)) (2 ^ 51 * down e)
unfolding mul of_bits I
product_is false m e = refl
product_is true m e = refl

sum_is : (s : Bool) (m : ℕ) (e : ℤ) → fin s m e ⊕ fin s 1 (negsuc 0) ≡ round binary64 s (m * up e * 2 + down e) (down e * 2)
unfolding add sum
sum_is false m e = ap (λ (z : ℕ). round binary64 false (m * up e * 2 + z) (down e * 2)) (one-mul (down e))
sum_is true m e = ap (λ (z : ℕ). round binary64 true (m * up e * 2 + z) (down e * 2)) (one-mul (down e))

signed_fin : (s : Bool) (m : ℕ) (e : ℤ) → signed (sgn s) (fin s m e) ≡ fin false m e
unfolding signed neg
signed_fin false m e = refl
signed_fin true m e = refl

signed_round : (s : Bool) (n d : ℕ) → signed (sgn s) (round binary64 false n d) ≡ round binary64 s n d
unfolding signed
signed_round false n d = refl
signed_round true n d = neg_round binary64 false n d

hi_times : (s : Bool) (m : ℕ) (e : ℤ) → fin s m e ⊗ ln2_hi ! 0 ≡ round binary64 s (m * up e * H) (down e * 2 ^ 32)
unfolding mul of_bits H
hi_times false m e = refl
hi_times true m e = refl

-- ---- n, and its bounds
cut_is : (g f : ℕ) → 0 < f → g * 2 ≤ 2239 * f → (min (g / f) (2 ^ 64 - 1) * f ≤ g) × (g < (min (g / f) (2 ^ 64 - 1) + 1) * f) × (min (g / f) (2 ^ 64 - 1) ≤ 1120)
cut_is g f p h =
    let q : g / f < 1120 = (div-lt_iff_lt-mul p).1 (few g f p h) in
    rw (small (g / f) q) (div-mul-le_self g f, subst (λ (z : ℕ). g < z * f) (sym (add-one (g / f))) ((div-lt_iff_lt-mul p).0 (lt-suc_self (g / f))), omega arith)
  where
    few : (g f : ℕ) → 0 < f → g * 2 ≤ 2239 * f → g < 1120 * f
    few g f p h = omega arith

    small : (q : ℕ) → q < 1120 → min q (2 ^ 64 - 1) ≡ q
    small q h = omega arith

-- ---- the difference

-- the product of n and ln2HI is exact
small_product : (n : ℕ) → n ≤ 1120 → n * H < 2 ^ 53
unfolding H
small_product n h = omega arith

small_n : (n : ℕ) → n ≤ 1120 → n < 2 ^ 53
small_n n h = omega arith

product_at : (s : Bool) (t : Float) (n : ℕ) → HasValue t s n 1 → t ⊗ ln2_hi ! 0 ≡ round binary64 s (n * H) (2 ^ 32)
product_at s nan n v = absurd v
product_at s (inf r) n v = absurd v
product_at s (fin r m e) n v =
    hi_times r m e
    ∙ ap (λ (q : Bool). round binary64 q (m * up e * H) (down e * 2 ^ 32)) v.0
    ∙ round_same binary64 s (m * up e * H) (down e * 2 ^ 32) (n * H) (2 ^ 32) (mul-pos (down_pos e) (pow_pos 32)) (pow_pos 32)
    (cross (m * up e) n (down e) H (2 ^ 32) (sym (mul-one (m * up e)) ∙ v.1))
  where
    cross : (x n d h k : ℕ) → x ≡ n * d → x * h * k ≡ n * h * (d * k)
    cross x n d h k e = ap (λ (z : ℕ). z * h * k) e ∙ ap (λ (z : ℕ). z * k) (mul_right_comm n d h) ∙ mul_assoc (n * h) d k

t_value : (s : Bool) (n : ℕ) → n ≤ 1120 → HasValue (t_of s n) s n 1
unfolding of_int
t_value s n h = subst (λ (z : Float). HasValue z s n 1) (sym (signed_round s n 1)) (exact_signed s n 0 (small_n n h) (lit≤ tt))

product_value : (s : Bool) (n : ℕ) → n ≤ 1120 → HasValue (t_of s n ⊗ ln2_hi ! 0) s (n * H) (2 ^ 32)
product_value s n h = subst (λ (z : Float). HasValue z s (n * H) (2 ^ 32)) (sym (product_at s (t_of s n) n (t_value s n h))) (exact_signed s (n * H) 32 (small_product n h) (lit≤ tt))

-- x less the product
difference_is : (s : Bool) (m : ℕ) (e : ℤ) (k : ℕ) (g : ℤ) → fin s m e ⊖ fin s k g ≡ sum binary64 s (m * up e * down g) (not s) (k * up g * down e) (down e * down g)
unfolding sub add neg
difference_is s m e k g = refl

pub difference_within : (s : Bool) (m : ℕ) (e : ℤ) (y : Float) (n : ℕ) → HasValue y s (n * H) (2 ^ 32) → SmallRest n (m * up e) (down e) → Within (fin s m e ⊖ y) 384 1024
difference_within s m e nan n v w = absurd v
difference_within s m e (inf r) n v w = absurd v
difference_within s m e (fin r k g) n v w =
    subst (λ (q : Bool). Within (fin s m e ⊖ fin q k g) 384 1024) (sym v.0)
    (subst (λ (z : Float). Within z 384 1024) (sym (difference_is s m e k g))
    (within_difference s (m * up e * down g) (k * up g * down e) (down e * down g) 384 1024 (mul-pos (down_pos e) (down_pos g)) (lit< tt)
    (eighths (m * up e * down g) (k * up g * down e) (down e * down g) (cancel (m * up e) (down e) (k * up g) (down g) (n * H) v.1 w.not_above))
    (eighths (k * up g * down e) (m * up e * down g) (down e * down g) (cancel_2 (m * up e) (down e) (k * up g) (down g) (n * H) v.1 w.not_below_lem))
    (exact_small 384 10 (lit< tt) (lit≤ tt))))
  where
    eighths : (A B D : ℕ) → A * 8 ≤ B * 8 + 3 * D → A * 1024 ≤ B * 1024 + 384 * D
    eighths A B D h = omega arith

    term_1 : (p D G Y : ℕ) → Y * 2 ^ 32 ≡ p * G → p * D * 8 * G ≡ Y * D * 2 ^ 32 * 8
    term_1 p D G Y e = mul_right_comm (p * D) 8 G ∙ ap (λ (z : ℕ). z * 8) (mul_right_comm p D G ∙ ap (λ (z : ℕ). z * D) (sym e) ∙ mul_right_comm Y (2 ^ 32) D)

    term_2 : (D G : ℕ) → 3 * (D * 2 ^ 32) * G ≡ 3 * (D * G * 2 ^ 32)
    term_2 D G = mul_assoc 3 (D * 2 ^ 32) G ∙ ap (λ (z : ℕ). 3 * z) (mul_right_comm D (2 ^ 32) G)

    term_3 : (X G : ℕ) → X * 2 ^ 32 * 8 * G ≡ X * G * 2 ^ 32 * 8
    term_3 X G = mul_right_comm (X * 2 ^ 32) 8 G ∙ ap (λ (z : ℕ). z * 8) (mul_right_comm X (2 ^ 32) G)

    linear : (a b d A B C : ℕ) → A ≤ B + C → A ≡ a * 2 ^ 32 * 8 → B ≡ b * 2 ^ 32 * 8 → C ≡ 3 * (d * 2 ^ 32) → a * 8 ≤ b * 8 + 3 * d
    linear a b d A B C h e f g = omega arith

    cancel : (X D Y G p : ℕ) → Y * 2 ^ 32 ≡ p * G → X * 2 ^ 32 * 8 ≤ p * D * 8 + 3 * (D * 2 ^ 32) → X * G * 8 ≤ Y * D * 8 + 3 * (D * G)
    cancel X D Y G p e h =
        linear (X * G) (Y * D) (D * G) (X * 2 ^ 32 * 8 * G) (p * D * 8 * G) (3 * (D * 2 ^ 32) * G)
        (le_trans (mul-le-mul_right G h) (le_of_eq (add-mul (p * D * 8) (3 * (D * 2 ^ 32)) G))) (term_3 X G) (term_1 p D G Y e) (term_2 D G)

    cancel_2 : (X D Y G p : ℕ) → Y * 2 ^ 32 ≡ p * G → p * D * 8 ≤ X * 2 ^ 32 * 8 + 3 * (D * 2 ^ 32) → Y * D * 8 ≤ X * G * 8 + 3 * (D * G)
    cancel_2 X D Y G p e h =
        linear (Y * D) (X * G) (D * G) (p * D * 8 * G) (X * 2 ^ 32 * 8 * G) (3 * (D * 2 ^ 32) * G)
        (le_trans (mul-le-mul_right G h) (le_of_eq (add-mul (X * 2 ^ 32 * 8) (3 * (D * 2 ^ 32)) G))) (term_1 p D G Y e) (term_3 X G) (term_2 D G)

t_within : (s : Bool) (t : Float) (n : ℕ) → n ≤ 1120 → HasValue t s n 1 → Within t 1120 1
t_within s nan n h v = absurd v
t_within s (inf r) n h v = absurd v
t_within s (fin r m e) n h v = le_trans (le_of_eq v.1) (mul-le-mul_right (down e) h)

t_up : (s : Bool) (n : ℕ) → n ≤ 1120 → Up (t_of s n) 1120 1
t_up s n h = record { pos = lit< tt; is = t_within s (t_of s n) n h (t_value s n h) }

-- what is cut to a whole number, v: from 1/2 up, and below 1120
pub record Few (v : Float) : Type 0 where
  pub from : From false v 1 2
  pub within : Within v 2239 2

abbrev pub ratio : Bool → Float → Float
ratio s x = signed (sgn s) (inv_ln2 ⊗ x ⊕ halves ! sgn s)

record Whole (s : Bool) (m : ℕ) (e : ℤ) (n : ℕ) : Type 0 where
  is : SmallRest n (m * up e) (down e)
  le : n ≤ 1120
  few : Few (ratio s (fin s m e))

half_more : (x d : ℕ) → 1 * (d * 2) ≤ (x * 2 + d) * 2
half_more x d = omega arith

whole_part : (s : Bool) (m : ℕ) (e : ℤ) → m * up e ≤ 746 * down e → Whole s m e (exp_whole (fin s m e) (sgn s))
unfolding exact to_unsigned exp_whole
whole_part s m e h =
    let x-up : Up (fin s m e) 746 1 = record { pos = lit< tt; is = le_trans (le_of_eq (mul-one (m * up e))) h } in
    let p-up : Up (inv_ln2 ⊗ fin s m e) 2238 2 = up_mul tt inv_up x-up in
    let v-up : Up (inv_ln2 ⊗ fin s m e ⊕ halves ! sgn s) 2239 2 = up_add tt p-up (half_up s) in
    let p = rounded s (I * (m * up e)) (2 ^ 51 * down e) 2238 2 (mul-pos (pow_pos 51) (down_pos e)) (subst (λ (z : Float). Within z 2238 2) (product_is s m e) p-up.is) in
    let pe : inv_ln2 ⊗ fin s m e ≡ fin s p.0 p.1 = product_is s m e ∙ p.2 in
    let ve : inv_ln2 ⊗ fin s m e ⊕ halves ! sgn s ≡ round binary64 s (p.0 * up p.1 * 2 + down p.1) (down p.1 * 2) =
    ap (λ (z : Float). z ⊕ halves ! sgn s) pe ∙ ap (λ (z : Float). fin s p.0 p.1 ⊕ z) (half_is s) ∙ sum_is s p.0 p.1 in
    let v = rounded s (p.0 * up p.1 * 2 + down p.1) (down p.1 * 2) 2239 2 (mul-pos (down_pos p.1) (lit< tt)) (subst (λ (z : Float). Within z 2239 2) ve v-up.is) in
    let re : ratio s (fin s m e) ≡ fin false v.0 v.1 = ap (signed (sgn s)) (ve ∙ v.2) ∙ signed_fin s v.0 v.1 in
    let in-v : v.0 * up v.1 * 2 ≤ 2239 * down v.1 = subst (λ (z : Float). Within z 2239 2) (ve ∙ v.2) v-up.is in
    let c = cut_is (v.0 * up v.1) (down v.1) (down_pos v.1) in-v in
    subst (λ (n : ℕ). Whole s m e n) (sym (ap (to_unsigned 64) re))
    (record {
      is = small_rest _ (m * up e) (down e) (p.0 * up p.1) (down p.1) (v.0 * up v.1) (down v.1) c.2 p.3 v.3 c.0 c.1;
      le = c.2;
      few = subst Few (sym re) (record { from = (refl, v.3.at_least 1 2 (lit< tt) (exact_small 1 1 (lit< tt) (lit≤ tt)) (half_more (p.0 * up p.1) (down p.1))); within = in-v });
    })

-- of an x with the sign s: v and n are below 1120, hi and lo are small
pub record Far (s : Bool) (x : Float) : Type 0 where
  pub few : Few (ratio s x)
  pub n_le : exp_whole x (sgn s) ≤ 1120
  pub hi_up : Up (x ⊖ t_of s (exp_whole x (sgn s)) ⊗ ln2_hi ! 0) 384 1024
  pub lo_up : Up (t_of s (exp_whole x (sgn s)) ⊗ ln2_lo ! 0) 1 1024

pub far : (s : Bool) (m : ℕ) (e : ℤ) → m * up e ≤ 746 * down e → Far s (fin s m e)
unfolding exact
far s m e h =
    let w = whole_part s m e h in
    let n : ℕ = exp_whole (fin s m e) (sgn s) in
    record {
      few = w.few;
      n_le = w.le;
      hi_up = record { pos = lit< tt; is = difference_within s m e (t_of s n ⊗ ln2_hi ! 0) n (product_value s n w.le) w.is };
      lo_up = wider 1 1024 tt (up_mul tt (t_up s n w.le) (ln2_lo_up false));
    }
