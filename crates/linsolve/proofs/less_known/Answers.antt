use native.Mathlib.Omega.{arith}
use Rattle.linsolve.proofs.Steps.{known_first, known_more}
use Rattle.linsolve.proofs.less_known.Goals as goal

pub loop-j-init : goal.loop-j-init
loop-j-init c = known_first _ _ _ _

pub loop-j-preserved : goal.loop-j-preserved
loop-j-preserved c = known_more _ _ _ _ _ (omega arith) c.loop-j.invariant c.cell_of.ensures
