use native.Mathlib.Omega.{arith}
use Rattle.number.proofs.Table.{fill_at_none, fill_more}
use Rattle.density.specs.Steps.{exponent_at}
use Rattle.density.proofs.exponents.Goals as goal

pub loop-a-init : goal.loop-a-init
loop-a-init c = fill_at_none 0 _ _

pub loop-a-preserved : goal.loop-a-preserved
unfolding exponent_at
loop-a-preserved c = fill_more _ _ _ c.loop-a.invariant (rw c.lnpdf.ensures) (omega arith)
