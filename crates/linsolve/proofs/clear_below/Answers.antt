use native.Mathlib.Omega.{arith}
use Rattle.linsolve.proofs.Steps.{clear_first, clear_more}
use Rattle.linsolve.proofs.clear_below.Goals as goal

pub loop-r-init : goal.loop-r-init
loop-r-init c = clear_first _ _ _ _

pub loop-r-preserved : goal.loop-r-preserved
loop-r-preserved c = clear_more _ _ _ _ (omega arith) c.loop-r.invariant c.clear_row.ensures
