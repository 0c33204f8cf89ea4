use mathlib.Core.Path.{refl}
use native.Mathlib.Omega.{arith}
use Rattle.number.proofs.Table.{fill_at_none, fill_at_more}
use Rattle.prediction.proofs.step_block.Goals as goal

pub loop-s-init : goal.loop-s-init
loop-s-init c = fill_at_none _ _ _

pub loop-s-preserved : goal.loop-s-preserved
loop-s-preserved c = fill_at_more _ _ _ _ c.loop-s.invariant refl (omega arith)
