use native.Mathlib.Omega.{arith}
use Rattle.number.proofs.Table.{fill_at_none, fill_more}
use Rattle.prediction.proofs.first_row.Goals as goal

pub loop-a-init : goal.loop-a-init
loop-a-init c = fill_at_none _ _ _

pub loop-a-preserved : goal.loop-a-preserved
loop-a-preserved c = fill_more _ _ _ c.loop-a.invariant c.first_of.ensures (omega arith)
