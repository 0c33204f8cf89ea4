-- The exponential of a NaN is a NaN. That of every other number is no NaN, and its sign is clear: it is at least zero and never -0.
-- Assumes nothing.
use mathlib.Core.Path.{◌≡◌, refl, sym, subst}
use mathlib.Core.Bool.{Bool, true, false, not, cond, true≢false}
use mathlib.Core.Logic.{inl, inr}
use Prim.Native.Nat.{ℕ, zero, suc, ◌+◌, ◌-◌, ◌*◌, ◌/◌, ◌%◌, ◌^◌, ◌≤◌, ◌<◌}
use native.Mathlib.Omega.{arith}
use borrow.Author.Tests.{le-ltb, lt-ltb, le-leb, lt-leb}
use lib.Dec.{T, lit<, lit≤}
use lib.IntN.{ℤ, negsuc}
use lib.Ieee.{Float, nan, inf, fin, binary64, up, down, add, mul, round, lt, le, of_bits, to_bits, fits, is_nan}
use lib.Ieee.Exact.{HasValue}
use Rattle.number.specs.Number.{◌⊕◌, ◌⊖◌, ◌⊗◌, ◌⊘◌, float, pattern_of, one, two, zero⁺}
use Rattle.number.specs.Table.{◌!◌}
use Rattle.rounding.specs.Bounds.{Within}
use Rattle.rounding.specs.Signed.{Signed}
use Rattle.rounding.proofs.Choose.{le_or_lt}
use Rattle.rounding.proofs.Signed.{zero_le_plus}
use Rattle.rounding.proofs.Round.{round_signed}
use Rattle.rounding.proofs.Intervals.{Up, Lo, exact, wider, nearer, up_mul, up_add, up_sub, up_div, lo_add, lo_sub, lo_sub_2}
use Rattle.rounding.proofs.Constants.{one_up, one_lo, two_up, two_lo}
use Rattle.rounding.proofs.Pattern.{bits_value}
use Rattle.exp.specs.Exp.{ln2_hi, ln2_lo, huge, two_m1000, over_at, under_at, exp_poly, exp_zero, exp_part, exp_scale, exp_whole, exp_far, exp_near, exp_reduce, exp_large, exp_of}
use Rattle.exp.specs.Range.{Split, Sized}
use Rattle.exp.proofs.Part.{poly_bound}
use Rattle.exp.proofs.Far.{sgn}
use Rattle.exp.proofs.Middle.{Middle}
use Rattle.exp.proofs.Size.{own, word_lt, below_large, within_range}
use Rattle.exp.proofs.Reduced.{Ready, far_sized, near_ready}
use Rattle.exp.proofs.Over.{far_y, far_sum}

-- ---- what has its sign clear

value_signed : (x : Float) (a c : ℕ) → HasValue x false a c → Signed false x
value_signed nan a c v = absurd v
value_signed (inf s) a c v = absurd v
value_signed (fin s m e) a c v = v.0

lo_signed : (x : Float) (a c : ℕ) → Lo false x a c → Signed false x
lo_signed nan a c l = absurd l.is
lo_signed (inf s) a c l = absurd l.is
lo_signed (fin s m e) a c l = l.is.0

-- the number of a pattern up to that of infinity
pattern_signed : (p : ℕ) → p ≤ 0x7ff0_0000_0000_0000 → Signed false (float p)
pattern_signed p h = elim (le_or_lt 0x7ff0_0000_0000_0000 p) [
  | inl l ↦ subst (λ (q : ℕ). Signed false (float q)) (top p h l) infinity
  | inr l ↦ value_signed (float p) _ _ (bits_value p l)
]
  where
    top : (p : ℕ) → p ≤ 0x7ff0_0000_0000_0000 → 0x7ff0_0000_0000_0000 ≤ p → 0x7ff0_0000_0000_0000 ≡ p
    top p h l = omega arith

    infinity : Signed false (float 0x7ff0_0000_0000_0000)
    infinity = unfold of_bits in refl

times_signed : (x : Float) → Signed false x → Signed false (x ⊗ two_m1000)
unfolding mul of_bits
times_signed nan h = absurd h
times_signed (inf true) h = absurd (true≢false h)
times_signed (inf false) h = refl
times_signed (fin true m e) h = absurd (true≢false h)
times_signed (fin false m e) h = round_signed binary64 false (m * up e * (1 * up (negsuc 999))) (down e * down (negsuc 999))

-- ---- k added

up_signed : (y : Float) (n : ℕ) → pattern_of y + n * 2 ^ 52 ≤ 2047 * 2 ^ 52 → Signed false (exp_scale y n 0)
unfolding exp_scale
up_signed y n h = pattern_signed _ h

down_signed : (y : Float) (n : ℕ) → Ready y → n ≤ 1120 → Signed false (exp_scale y n 1)
unfolding exp_scale
down_signed y n r h = elim (le_or_lt n 1021) [
  | inl l ↦ rw (le-leb n 1021 l) (pattern_signed _ (less (pattern_of y) (n * 2 ^ 52) r.exponent))
  | inr l ↦ rw (lt-leb n 1021 l) (times_signed _ (pattern_signed _ (less (pattern_of y) ((n - 1000) * 2 ^ 52) r.exponent)))
]
  where
    less : (b d : ℕ) → Middle b → b - d ≤ 0x7ff0_0000_0000_0000
    less b d m = omega arith

-- ---- far, below zero and above

far_down : (x : Float) → Sized true x → Signed false (exp_far x 1)
unfolding exp_far
far_down x h = down_signed _ (exp_whole x 1) (far_y true x h) (far_sized true x h).n_le

far_up : (x : Float) → Sized false x → lt over_at x ≡ false → Signed false (exp_far x 0)
unfolding exp_far
far_up x h o = up_signed _ (exp_whole x 0) (far_sum x h o)

-- ---- near: k is 1 or -1
near_signed : (x : Float) (hx s : ℕ) → T (fits binary64 x) → Split x hx s → 0x3fd6_2e42 < hx → hx < 0x3ff0_a2b2 → Signed false (exp_near x s)
unfolding exp_near
near_signed x hx s f p g h = let w = near_ready x hx s f p g h in go s w.0 w.1
  where
    sums : (b : ℕ) → Middle b → b + 1 * 2 ^ 52 ≤ 2047 * 2 ^ 52
    sums b m = omega arith

    go : (s : ℕ) → Ready (exp_part (x ⊖ ln2_hi ! s) (ln2_lo ! s)) → s < 2 → Signed false (exp_scale (exp_part (x ⊖ ln2_hi ! s) (ln2_lo ! s)) 1 s)
    go zero r h = up_signed _ 1 (sums _ r.exponent)
    go (suc zero) r h = down_signed _ 1 r (lit≤ tt)
    go (suc (suc s)) r h = absurd (omega arith)

-- ---- between: no scaling
zero_signed : (x : Float) → Up x 3 8 → Signed false (exp_zero x)
unfolding exp_zero exact
zero_signed x h =
    let hx : Up x 1 2 = wider 1 2 tt h in
    let c : Float = x ⊖ exp_poly (x ⊗ x) in
    let hc : Up c 9 16 = up_sub tt (wider 8 16 tt hx) (poly_bound (x ⊗ x) (up_mul tt hx hx)) in
    let ld : Lo true (c ⊖ two) 1 1 = nearer 1 1 tt (lo_sub_2 tt hc two_lo (up_sub tt hc two_up)) in
    let q : Up (x ⊗ c ⊘ (c ⊖ two)) 9 32 = up_div tt (up_mul tt hx hc) ld in
    let z : Up (x ⊗ c ⊘ (c ⊖ two) ⊖ x) 672 1024 = wider 672 1024 tt (up_sub tt q (wider 12 32 tt h)) in
    lo_signed _ 352 1024 (lo_sub tt one_lo z (up_sub tt one_up z))

tiny_signed : (x : Float) → Up x 1 1024 → Signed false (one ⊕ x)
unfolding exact
tiny_signed x h = lo_signed _ 1023 1024 (lo_add tt one_lo h (up_add tt one_up h))

-- ---- by the high word: x is `fin s m e`

far_signed : (s : Bool) (m : ℕ) (e : ℤ) → Within (fin s m e) 746 1 → lt over_at (fin s m e) ≡ false → Signed false (exp_far (fin s m e) (sgn s))
far_signed false m e w o = far_up (fin false m e) (refl, w) o
far_signed true m e w o = far_down (fin true m e) (refl, w)

reduce_signed : (s : Bool) (m : ℕ) (e : ℤ) (hx : ℕ) → T (fits binary64 (fin s m e)) → Split (fin s m e) hx (sgn s) → Within (fin s m e) 746 1 → lt over_at (fin s m e) ≡ false → Signed false (exp_reduce (fin s m e) hx (sgn s))
unfolding exp_reduce
reduce_signed s m e hx f p w o = elim (le_or_lt hx 0x3fd6_2e42) [
  | inl l ↦ rw (le-ltb 0x3fd6_2e42 hx l) (elim (le_or_lt 0x3e30_0000 hx) [
    | inl g ↦ rw (le-ltb hx 0x3e30_0000 g) (zero_signed (fin s m e) (record { pos = lit< tt; is = word_lt s m e 0x3fd6_2e43 3 8 (own s m e f) (subst (λ (z : ℕ). z < 0x3fd6_2e43) p.word (suc_le l)) (lit≤ tt) }))
    | inr g ↦ rw (lt-ltb hx 0x3e30_0000 g) (tiny_signed (fin s m e) (record { pos = lit< tt; is = word_lt s m e 0x3e30_0000 1 1024 (own s m e f) (subst (λ (z : ℕ). z < 0x3e30_0000) p.word g) (lit≤ tt) }))
  ])
  | inr l ↦ rw (lt-ltb 0x3fd6_2e42 hx l) (elim (le_or_lt 0x3ff0_a2b2 hx) [
    | inl g ↦ rw (le-ltb hx 0x3ff0_a2b2 g) (far_signed s m e w o)
    | inr g ↦ rw (lt-ltb hx 0x3ff0_a2b2 g) (near_signed (fin s m e) hx (sgn s) f p l g)
  ])
]
  where
    suc_le : {a : ℕ} → a ≤ 0x3fd6_2e42 → a < 0x3fd6_2e43
    suc_le {a} h = omega arith

large_signed : (s : Bool) (m : ℕ) (e : ℤ) (hx : ℕ) → T (fits binary64 (fin s m e)) → Split (fin s m e) hx (sgn s) → hx < 0x7ff0_0000 → Signed false (exp_large (fin s m e) hx (sgn s))
unfolding exp_large
large_signed s m e hx f p h = rw (lt-leb 0x7ff0_0000 hx h) (go (lt over_at (fin s m e)) (lt (fin s m e) under_at) refl refl)
  where
    go : (o u : Bool) → lt over_at (fin s m e) ≡ o → lt (fin s m e) under_at ≡ u → Signed false (cond o (huge ⊗ huge) (cond u (two_m1000 ⊗ two_m1000) (exp_reduce (fin s m e) hx (sgn s))))
    go true u x y = unfold mul of_bits round in refl
    go false true x y = unfold mul of_bits round in refl
    go false false x y = reduce_signed s m e hx f p (within_range (fin s m e) hx (sgn s) (unfold is_nan in refl) p h x y) x

finite_signed : (s : Bool) (m : ℕ) (e : ℤ) → T (fits binary64 (fin s m e)) → Signed false (exp_of (fin s m e))
unfolding exp_of
finite_signed s m e f =
    let o = own s m e f in
    let hx : ℕ = pattern_of (fin s m e) % 2 ^ 63 / 2 ^ 32 in
    let p : Split (fin s m e) hx (sgn s) = record { word = refl; sign = sym o.sign } in
    rw o.sign
    (elim (le_or_lt 0x4086_2e42 hx) [
      | inl l ↦ rw (le-leb 0x4086_2e42 hx l) (large_signed s m e hx f p (word (pattern_of (fin s m e) % 2 ^ 63) o.below))
      | inr l ↦
          rw (lt-leb 0x4086_2e42 hx l)
          (let r = below_large (fin s m e) hx (sgn s) f (unfold is_nan in refl) p l in reduce_signed s m e hx f p r.0 r.1)
    ])
  where
    word : (b : ℕ) → b < 0x7ff0_0000_0000_0000 → b / 2 ^ 32 < 0x7ff0_0000
    word b h = omega arith

-- ---- the theorems

pub exp_nan : exp_of nan ≡ nan
unfolding exp_of exp_large to_bits add
exp_nan = refl

-- no NaN, and the sign is clear
pub exp_signed : (x : Float) → T (fits binary64 x) → T (not (is_nan x)) → Signed false (exp_of x)
unfolding exp_of exp_large to_bits of_bits is_nan
exp_signed nan f h = absurd h
exp_signed (inf false) f h = refl
exp_signed (inf true) f h = refl
exp_signed (fin s m e) f h = finite_signed s m e f

-- so it is no NaN, and at least zero
pub exp_number : (x : Float) → T (fits binary64 x) → T (not (is_nan x)) → T (not (is_nan (exp_of x)))
exp_number x f h = go (exp_of x) (exp_signed x f h)
  where
    go : (y : Float) → Signed false y → T (not (is_nan y))
    go nan s = absurd s
    go (inf t) s = unfold is_nan in tt
    go (fin t m e) s = unfold is_nan in tt

pub exp_nonneg : (x : Float) → T (fits binary64 x) → T (not (is_nan x)) → T (le zero⁺ (exp_of x))
exp_nonneg x f h = zero_le_plus (exp_of x) (exp_signed x f h)
