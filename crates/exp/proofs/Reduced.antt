-- The reduced argument of either case, and the y that it gives: no NaN, with an exponent to which k can be added. Assumes nothing.
use mathlib.Core.Path.{◌≡◌, refl, sym, ap, ◌∙◌, subst}
use mathlib.Core.Bool.{Bool, true, false, not}
use Prim.Native.Nat.{ℕ, zero, suc, ◌+◌, ◌-◌, ◌*◌, ◌^◌, ◌≤◌, ◌<◌}
use native.Mathlib.Nat.{le_trans, le_of_eq, le_of_lt, mul-one}
use native.Mathlib.Omega.{arith}
use borrow.Author.Tests.{le-leb, lt-leb}
use lib.Dec.{T, lit<, lit≤}
use lib.IntN.{ℤ, pos}
use lib.Ieee.{Float, nan, inf, fin, binary64, up, down, fits, is_nan, of_bits, to_bits, of_int}
use lib.Ieee.Exact.{HasValue}
use Rattle.number.specs.Number.{◌⊖◌, ◌⊗◌, float, pattern_of}
use Rattle.number.specs.Table.{◌!◌}
use Rattle.rounding.proofs.Intervals.{Up, wider, within_number}
use Rattle.exp.specs.Exp.{ln2_hi, ln2_lo, two_m1000, signed, exp_part, exp_scale, exp_whole, exp_far}
use Rattle.exp.specs.Range.{Split, Sized}
use Rattle.exp.proofs.Part.{part_bound, part_fits}
use Rattle.exp.proofs.Reduce.{SmallRest, H}
use Rattle.exp.proofs.Far.{sgn, Far, far, ln2_lo_up, difference_within}
use Rattle.exp.proofs.Middle.{Middle, middle}
use Rattle.exp.proofs.Size.{own, word_lt, word_ge}

-- y, before k is added
pub record Ready (y : Float) : Type 0 where
  pub number : T (not (is_nan y))
  pub exponent : Middle (pattern_of y)

pub ready : (hi lo : Float) → Up hi 384 1024 → Up lo 1 1024 → Ready (exp_part hi lo)
ready hi lo h l =
    let b = part_bound hi lo h l in
    record { number = within_number (exp_part hi lo) 1697 1024 b.within.is; exponent = middle (exp_part hi lo) (part_fits hi lo) b }

-- ---- far

-- y for a t that is still without its sign
abbrev pub far_part : Bool → Float → Float → Float
far_part s x t = exp_part (x ⊖ signed (sgn s) t ⊗ ln2_hi ! 0) (signed (sgn s) t ⊗ ln2_lo ! 0)

pub far_sized : (s : Bool) (x : Float) → Sized s x → Far s x
far_sized s nan h = absurd h.1
far_sized s (inf t) h = absurd h.1
far_sized s (fin t m e) h = subst (λ (q : Bool). Far s (fin q m e)) (sym h.0) (far s m e (le_trans (le_of_eq (sym (mul-one (m * up e)))) h.1))

-- n, t and y as the code computes them
pub record Made (s : Bool) (x : Float) (n : ℕ) (t y : Float) : Type 0 where
  pub n_is : n ≡ exp_whole x (sgn s)
  pub t_is : t ≡ of_int binary64 (pos n)
  pub y_is : y ≡ far_part s x t

pub far_few : (s : Bool) (x : Float) (n : ℕ) → Sized s x → n ≡ exp_whole x (sgn s) → n ≤ 1120
far_few s x n h e = subst (λ (z : ℕ). z ≤ 1120) (sym e) (far_sized s x h).n_le

pub y_at : {s : Bool} {x : Float} {n : ℕ} {t y : Float} → Made s x n t y → y ≡ far_part s x (of_int binary64 (pos n))
y_at {s} {x} {n} {t} {y} m = m.y_is ∙ ap (far_part s x) m.t_is

pub far_ready : {s : Bool} {x : Float} {n : ℕ} {t y : Float} → Sized s x → Made s x n t y → Ready y
far_ready {s} {x} {n} {t} {y} h m = let w = far_sized s x h in subst Ready (sym (y_at m ∙ ap (λ (k : ℕ). far_part s x (of_int binary64 (pos k))) m.n_is)) (ready _ _ w.hi_up w.lo_up)

pub far_is : {s : Bool} {x : Float} {n : ℕ} {t y : Float} → Made s x n t y → exp_scale y n (sgn s) ≡ exp_far x (sgn s)
unfolding exp_far
far_is {s} {x} {n} {t} {y} m = ap (λ (z : Float). exp_scale z n (sgn s)) (y_at m) ∙ ap (λ (k : ℕ). exp_scale (far_part s x (of_int binary64 (pos k))) k (sgn s)) m.n_is

pub scale_up : (y : Float) (n : ℕ) → float (pattern_of y + n * 2 ^ 52) ≡ exp_scale y n 0
unfolding exp_scale
scale_up y n = refl

pub scale_down : (y : Float) (n : ℕ) → n ≤ 1021 → float (pattern_of y - n * 2 ^ 52) ≡ exp_scale y n 1
unfolding exp_scale
scale_down y n h = rw (le-leb n 1021 h)

pub scale_far_down : (y : Float) (n : ℕ) → 1021 < n → float (pattern_of y - (n - 1000) * 2 ^ 52) ⊗ two_m1000 ≡ exp_scale y n 1
unfolding exp_scale
scale_far_down y n h = rw (lt-leb n 1021 h)

-- ---- near: k is 1 or -1

hi_value : (s : Bool) → HasValue (ln2_hi ! sgn s) s (1 * H) (2 ^ 32)
unfolding of_bits H
hi_value false = (refl, refl)
hi_value true = (refl, refl)

one_rest : (X D : ℕ) → X * 1024 ≤ 1093 * D → 327 * D ≤ X * 1024 → SmallRest 1 X D
unfolding H
one_rest X D h k = record { not_above = omega arith; not_below_lem = omega arith }

near_at : (s : Bool) (m : ℕ) (e : ℤ) → m * up e * 1024 ≤ 1093 * down e → 327 * down e ≤ m * up e * 1024 → Ready (exp_part (fin s m e ⊖ ln2_hi ! sgn s) (ln2_lo ! sgn s))
near_at s m e h k = ready _ _ (record { pos = lit< tt; is = difference_within s m e (ln2_hi ! sgn s) 1 (hi_value s) (one_rest (m * up e) (down e) h k) }) (wider 1 1024 tt (ln2_lo_up s))

sgn_two : (s : Bool) → sgn s < 2
sgn_two false = lit< tt
sgn_two true = lit< tt

pub near_ready : (x : Float) (hx s : ℕ) → T (fits binary64 x) → Split x hx s → 0x3fd6_2e42 < hx → hx < 0x3ff0_a2b2 → Ready (exp_part (x ⊖ ln2_hi ! s) (ln2_lo ! s)) × (s < 2)
near_ready nan hx s f p g h = absurd (unfold to_bits in omega (arith, p.word))
near_ready (inf true) hx s f p g h = absurd (unfold to_bits in omega (arith, p.word))
near_ready (inf false) hx s f p g h = absurd (unfold to_bits in omega (arith, p.word))
near_ready (fin t m e) hx s f p g h =
    let o = own t m e f in
    subst (λ (z : ℕ). Ready (exp_part (fin t m e ⊖ ln2_hi ! z) (ln2_lo ! z)) × (z < 2)) (sym (p.sign ∙ o.sign)) (
      near_at t m e
          (word_lt t m e 0x3ff0_a2b2 1093 1024 o (subst (λ (z : ℕ). z < 0x3ff0_a2b2) p.word h) (lit≤ tt))
          (word_ge t m e 0x3fd6_2e42 327 1024 o (le_of_lt (subst (λ (z : ℕ). 0x3fd6_2e42 < z) p.word g)) (lit≤ tt)),
      sgn_two t,
    )

pub near_scale : (y : Float) (s : ℕ) → Ready y → s < 2 → float (pattern_of y + 2 ^ 52 - s * 2 ^ 53) ≡ exp_scale y 1 s
unfolding exp_scale
near_scale y zero r h = ap float (up (pattern_of y))
  where
    up : (b : ℕ) → b + 2 ^ 52 - 0 * 2 ^ 53 ≡ b + 1 * 2 ^ 52
    up b = omega arith
near_scale y (suc zero) r h = ap float (down (pattern_of y) r.exponent)
  where
    down : (b : ℕ) → Middle b → b + 2 ^ 52 - 1 * 2 ^ 53 ≡ b - 1 * 2 ^ 52
    down b m = omega arith
near_scale y (suc (suc s)) r h = absurd (omega arith)
