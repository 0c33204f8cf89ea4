use mathlib.Core.Path.{◌≡◌}
use native.Mathlib.Omega.{arith}
use Rattle.number.proofs.Table.{fill_at_none, fill_at_past, fill_more}
use Rattle.em_variances.specs.Steps.{turned}
use Rattle.em_variances.proofs.turn.Goals as goal

pub loop-phi-init : goal.loop-phi-init
loop-phi-init c = fill_at_none 0 _ _

pub loop-phi-preserved : goal.loop-phi-preserved
loop-phi-preserved c =
    fill_more _ _ _ c.loop-phi.invariant (rw (fill_at_past 0 _ _ _ c.loop-phi.invariant c.loop-phi.phi-index (omega arith) (omega arith))) (omega arith)

pub returns : goal.returns
unfolding turned
returns c = let e : c.loop-phi.phi-index ≡ 112 = omega arith in rw e at c.loop-phi.invariant
