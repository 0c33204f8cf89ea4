use Rattle.em_ridge.proofs.Diagonal.{largest_none, largest_more}
use Rattle.em_ridge.proofs.largest.Goals as goal

pub loop-i-init : goal.loop-i-init
loop-i-init c = largest_none _ _

pub loop-i-preserved : goal.loop-i-preserved
loop-i-preserved c = largest_more _ _ _ c.loop-i.invariant c.max-scale.ensures
