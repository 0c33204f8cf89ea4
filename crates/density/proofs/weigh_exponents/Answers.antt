use native.Mathlib.Omega.{arith}
use Rattle.number.proofs.Sums.{sum_none, sum_more}
use Rattle.number.proofs.Table.{fill_at_none, fill_more, fill_at_past}
use Rattle.density.specs.Steps.{weight_of}
use Rattle.density.proofs.weigh_exponents.Goals as goal

pub loop-a-init : goal.loop-a-init
loop-a-init c = (fill_at_none 0 _ _, sum_none _)

pub loop-a-preserved : goal.loop-a-preserved
unfolding weight_of
loop-a-preserved c =
    let l = c.loop-a in
    let e = c.exp.ensures in
    let exponent = fill_at_past 0 _ l.a _ l.invariant.0 l.a (omega arith) (omega arith) in
    (fill_more _ _ _ l.invariant.0 (rw (e, exponent)) (omega arith), rw (e, exponent) (sum_more _ _ l.invariant.1))
