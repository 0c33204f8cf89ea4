use Rattle.std.proofs.Common.{◌*◌, ◌^◌, arith}
use Rattle.root.proofs.WholeRoot.{near_next, near_same, above_zero}
use Rattle.root.proofs.Digits.{small, one_digit, zero_digit, first, last}
use Rattle.root.proofs.by_digits.Goals.{then-trial-next, else-trial-next}
use Rattle.root.proofs.by_digits.Goals as goal

pub overflow_mul-low : goal.overflow_mul-low
overflow_mul-low c = omega arith

pub loop-init : goal.loop-init
loop-init c = first c.args.m c.requires.1

pub overflow_mul-next : goal.overflow_mul-next
overflow_mul-next c = omega (arith, small c.loop.invariant)

pub overflow_add-next : goal.overflow_add-next
overflow_add-next c = omega (arith, small c.loop.invariant)

pub overflow_mul-trial : goal.overflow_mul-trial
overflow_mul-trial c = omega (arith, small c.loop.invariant)

pub overflow_add-trial : goal.overflow_add-trial
overflow_add-trial c = omega (arith, small c.loop.invariant)

pub overflow_mul-low-in-loop : goal.overflow_mul-low-in-loop
overflow_mul-low-in-loop c = omega arith

pub overflow_mul-q : goal.overflow_mul-q
overflow_mul-q c = omega (arith, small c.loop.invariant)

pub overflow_add-q : goal.overflow_add-q
overflow_add-q c = omega (arith, small c.loop.invariant)

pub overflow_mul-q-else-trial-next : goal.overflow_mul-q-else-trial-next
overflow_mul-q-else-trial-next c = omega (arith, small c.loop.invariant)

pub loop-preserved : goal.loop-preserved
loop-preserved c =
    let l = c.loop.invariant in
    let t = c.loop-test.true in
    elim c.if-trial-next.branch [ then-trial-next w ↦ rw (w.q-is, w.rest-is) (one_digit l t w.if-trial-next.true) | else-trial-next w ↦ rw (w.q-is, w.rest-is) (zero_digit l t w.if-trial-next.false) ]

pub overflow_add-result : goal.overflow_add-result
overflow_add-result c = omega (arith, small c.loop.invariant)

pub returns-then-q-rest : goal.returns-then-q-rest
returns-then-q-rest c =
    let s = c.loop.invariant in
    let n = c.args.m * 2 ^ 52 in
    (near_next n c.loop.q c.loop.rest (last s c.loop-test.false) (omega arith) c.if-q-rest.true, omega (arith, small s))

pub returns : goal.returns
returns c =
    let s = c.loop.invariant in
    let n = c.args.m * 2 ^ 52 in
    (near_same n c.loop.q c.loop.rest (above_zero _ c.requires.0) (last s c.loop-test.false) c.if-q-rest.false, omega (arith, small s))
