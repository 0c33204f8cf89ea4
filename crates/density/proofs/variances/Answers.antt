use mathlib.Core.Path.{◌≡◌}
use native.Mathlib.Omega.{arith}
use Rattle.number.proofs.Table.{fill_at_none, fill_more}
use Rattle.density.specs.Steps.{variances_from}
use Rattle.density.proofs.variances.Goals as goal

pub loop-s-init : goal.loop-s-init
loop-s-init c = fill_at_none 0 _ _

pub loop-s-preserved : goal.loop-s-preserved
loop-s-preserved c = fill_more _ _ _ c.loop-s.invariant (rw c.block_of.ensures) (omega arith)

pub returns : goal.returns
unfolding variances_from
returns c = let e : c.loop-s.s ≡ c.args.k = omega arith in rw e at c.loop-s.invariant
