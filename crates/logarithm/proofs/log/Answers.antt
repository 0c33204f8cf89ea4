-- `log`: zeros, numbers below zero, infinity and NaN, subnormal numbers, the others.
use mathlib.Core.Bool.{true, false}
use mathlib.Core.Path.{◌≡◌, refl, sym}
use Prim.Native.Nat.{ℕ, ◌%◌, ◌^◌, ◌≤◌, ◌<◌}
use native.Mathlib.Omega.{arith}
use borrow.Author.Tests.{le-leb, lt-leb, eq-eqb, ne_eqb, ltb-false, leb-false}
use lib.Dec.{ltb, leb}
use lib.Ieee.{binary64, to_bits, add}
use Rattle.number.proofs.Cases.{is_nan_lem}
use Rattle.logarithm.specs.Log.{log_of}
use Rattle.logarithm.proofs.Tests.{first, none}
use Rattle.logarithm.proofs.log.Goals.{then-b+else-b-eq0+else-b-ge9223372036854775808+else-b-ge9218868437227405312, else-b}
use Rattle.logarithm.proofs.log.Goals as goal

no_zero : (b : ℕ) → 2 ^ 52 ≤ b → b < 0x7ff0_0000_0000_0000 → b % 2 ^ 63 ≡ 0 → ⊥
no_zero b l h e = omega arith

pub returns-then-is_nan : goal.returns-then-is_nan
unfolding log_of to_bits add
returns-then-is_nan c = rw (← is_nan_lem c.args.x (sym c.if-is_nan.ensures.value)) refl

pub returns-then-b-eq0 : goal.returns-then-b-eq0
unfolding log_of
returns-then-b-eq0 c = simp (eq-eqb _ _ c.if-b-eq0.true)

pub returns-then-b-ge9223372036854775808 : goal.returns-then-b-ge9223372036854775808
unfolding log_of
returns-then-b-ge9223372036854775808 c = simp (ne_eqb _ _ c.if-b-eq0.false, le-leb _ _ c.if-b-ge9223372036854775808.true)

pub returns-then-b-ge9218868437227405312 : goal.returns-then-b-ge9218868437227405312
unfolding log_of
returns-then-b-ge9218868437227405312 c = simp (ne_eqb _ _ c.if-b-eq0.false, lt-leb _ _ c.if-b-ge9223372036854775808.false, le-leb _ _ c.if-b-ge9218868437227405312.true)

pub overflow_add-scaled : goal.overflow_add-scaled
overflow_add-scaled c = elim c.if-b.branch [ then-b+else-b-eq0+else-b-ge9223372036854775808+else-b-ge9218868437227405312 w ↦ omega arith | else-b w ↦ omega arith ]

pub log_normal-requires : goal.log_normal-requires
log_normal-requires c = elim c.if-b.branch [ then-b+else-b-eq0+else-b-ge9223372036854775808+else-b-ge9218868437227405312 w ↦ omega arith | else-b w ↦ omega arith ]

pub returns : goal.returns
unfolding log_of
returns c =
    let b : ℕ = to_bits binary64 c.args.x in
    elim c.if-b.branch [
      | then-b+else-b-eq0+else-b-ge9223372036854775808+else-b-ge9218868437227405312 w ↦
          let low : ltb b (2 ^ 52) ≡ true = first _ _ w.if-b.true (lt-leb _ _ w.if-b-ge9218868437227405312.false) in
          simp (ne_eqb _ _ w.if-b-eq0.false, lt-leb _ _ w.if-b-ge9223372036854775808.false, lt-leb _ _ w.if-b-ge9218868437227405312.false, low) (simp (w.b-is, w.scaled-is, w.pattern-b.ensures) at c.log_normal.ensures)
      | else-b w ↦
          let n : (ltb b (2 ^ 52) ≡ false) × (leb 0x7ff0_0000_0000_0000 b ≡ false) = none _ _ w.if-b.false in
          let l : 2 ^ 52 ≤ b = ltb-false _ _ n.0 in
          let h : b < 0x7ff0_0000_0000_0000 = leb-false _ _ n.1 in
          simp (ne_eqb _ _ (no_zero b l h), lt-leb (2 ^ 63) b (omega arith), n.0, n.1) (simp (w.b-is, w.scaled-is) at c.log_normal.ensures)
    ]
