use native.Mathlib.Omega.{arith}
use Rattle.number.proofs.Table.{fill_at_none, fill_more}
use Rattle.prediction.proofs.mixed_row.Goals as goal

pub loop-s-init : goal.loop-s-init
loop-s-init c = fill_at_none _ _ _

pub loop-s-preserved : goal.loop-s-preserved
loop-s-preserved c = fill_more _ _ _ c.loop-s.invariant c.mixed_of.ensures (omega arith)
