use mathlib.Core.Path.{◌≡◌}
use Prim.Native.Nat.{suc}
use native.Mathlib.Nat.{pow-suc, mul-le-mul}
use native.Mathlib.Numerals.{add-one}
use native.Mathlib.Omega.{arith}
use Rattle.spec.proofs.Count.{few, many, wide, fits, pow_one}
use Rattle.spec.proofs.window_count.Goals as goal

pub returns-then-k-lt2 : goal.returns-then-k-lt2
returns-then-k-lt2 c = few _ _ c.if-k-lt2.true

pub returns-then-k-gt256 : goal.returns-then-k-gt256
returns-then-k-gt256 c = many _ _ 0 (omega arith) (omega arith) (rw (← pow_one) c.if-k-gt256.true)

pub loop-init : goal.loop-init
loop-init c = (omega arith, pow_one _, omega arith)

pub overflow_mul-m : goal.overflow_mul-m
overflow_mul-m c = omega (arith, mul-le-mul c.loop.invariant.2 c.if-k-gt256.false)

pub returns-then-m-gt256 : goal.returns-then-m-gt256
returns-then-m-gt256 c = many _ _ (suc c.loop.counter) (omega arith) c.loop-test.true (rw (pow-suc, ← c.loop.invariant.1) c.if-m-gt256.true)

pub loop-preserved : goal.loop-preserved
loop-preserved c = (omega arith, rw (add-one, pow-suc, ← c.loop.invariant.1), c.if-m-gt256.false)

pub returns-then-k-gt16 : goal.returns-then-k-gt16
returns-then-k-gt16 c =
    let at = c.before.before in
    let e : at.loop.counter ≡ at.args.order = omega arith in
    wide _ _ (omega arith) (rw (← rw e at at.loop.invariant.1) at.loop.invariant.2) c.if-k-gt16.true

pub returns : goal.returns
returns c =
    let at = c.before.before in
    let e : at.loop.counter ≡ at.args.order = omega arith in
    fits _ _ _ (omega arith) (rw e at at.loop.invariant.1) at.loop.invariant.2 c.if-k-gt16.false
