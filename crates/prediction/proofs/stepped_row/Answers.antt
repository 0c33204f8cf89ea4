use mathlib.Core.Path.{◌≡◌}
use native.Mathlib.Omega.{arith}
use native.Mathlib.Nat.{zero-mul, mul_comm}
use Rattle.number.proofs.Table.{fill_at_none, row_before}
use Rattle.prediction.proofs.Turns.{stepped_more}
use Rattle.prediction.proofs.stepped_row.Goals as goal

pub loop-c-init : goal.loop-c-init
loop-c-init c = rw zero-mul (fill_at_none _ _ _)

pub loop-c-preserved : goal.loop-c-preserved
loop-c-preserved c =
    let block = row_before c.args.k c.loop-c.c c.args.power c.loop-c-test.true in
    stepped_more _ _ _ _ _ _ c.loop-c.invariant (omega (arith, mul_comm c.args.power c.args.k)) c.sum_before-sum.ensures c.step_block.ensures

pub returns : goal.returns
returns c =
    let e : c.loop-c.c ≡ c.args.power = omega arith in
    rw (e, mul_comm) at c.loop-c.invariant
