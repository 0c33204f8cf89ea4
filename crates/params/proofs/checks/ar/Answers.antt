-- `ar`: 17 where there is no block, 12 where their count or the count of coefficients is wrong, then each coefficient.
use Prim.Native.Nat.{◌*◌, ◌≤◌}
use native.Mathlib.Nat.{mul-le-mul}
use native.Mathlib.Omega.{arith}
use borrow.Author.Tests.{eq-eqb, ne_eqb}
use Rattle.params.proofs.Tests.{at_most}
use mathlib.Core.Path.{ap}
use mathlib.Core.Bool.{not}
use Rattle.params.proofs.checks.ar.Goals.{Else-not-one_or_each}
use Rattle.params.proofs.checks.ar.Goals as goal

within : (c : Else-not-one_or_each) → let q = c.args.q in q.ar_blocks * q.order ≤ 16 * 7
within c =
    mul-le-mul (at_most _ _ c.one_or_each.ensures (ap not c.if-not-one_or_each.false) c.requires.0) c.requires.1

pub returns-then-q-eq0 : goal.returns-then-q-eq0
returns-then-q-eq0 c = rw (eq-eqb _ _ c.if-q-eq0.true)

pub returns-then-not-one_or_each : goal.returns-then-not-one_or_each
returns-then-not-one_or_each c = rw (ne_eqb _ _ c.if-q-eq0.false, ← c.one_or_each.ensures, (ap not c.if-not-one_or_each.true))

pub overflow_mul-expected : goal.overflow_mul-expected
overflow_mul-expected c = omega (arith, within c.before)

pub returns-then-q-expected : goal.returns-then-q-expected
returns-then-q-expected c =
    let counted = c.before.before.before in
    rw (ne_eqb _ _ counted.if-q-eq0.false, ← counted.one_or_each.ensures, (ap not counted.if-not-one_or_each.false), ne_eqb _ _ c.if-q-expected.true)

pub coefficients-requires : goal.coefficients-requires
coefficients-requires c = omega (arith, within c.before.before.before)

pub returns : goal.returns
returns c =
    let counted = c.before.before.before.before in
    rw
    (ne_eqb _ _ counted.if-q-eq0.false, ← counted.one_or_each.ensures, (ap not counted.if-not-one_or_each.false), eq-eqb _ _ c.if-q-expected.false)
    c.coefficients.ensures
