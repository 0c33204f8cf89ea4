use mathlib.Core.Path.{◌≡◌}
use native.Mathlib.Omega.{arith}
use Rattle.number.proofs.Table.{fill_at_none, fill_at_past, fill_more}
use Rattle.filter.proofs.divide.Goals as goal

pub loop-a-init : goal.loop-a-init
loop-a-init c = (omega arith, fill_at_none _ _ _)

pub loop-a-preserved : goal.loop-a-preserved
loop-a-preserved c =
    let l = c.args.weights.now in
    let kept = fill_at_past 0 _ _ l c.loop-a.invariant.1 c.loop-a.a (omega arith) (omega arith) in
    (omega arith, fill_more _ _ _ c.loop-a.invariant.1 (rw kept) (omega (arith, c.requires)))

pub returns : goal.returns
returns c = let e : c.loop-a.a ≡ c.args.m = omega arith in rw e at c.loop-a.invariant.1
