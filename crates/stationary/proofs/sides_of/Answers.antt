use mathlib.Core.Path.{◌≡◌}
use native.Mathlib.Omega.{arith}
use Rattle.number.proofs.Table.{fill_at_none, fill_more}
use Rattle.stationary.specs.Stationary.{share_sides}
use Rattle.stationary.proofs.sides_of.Goals as goal

pub loop-i-init : goal.loop-i-init
loop-i-init c = (omega arith, fill_at_none 0 _ _)

pub loop-i-preserved : goal.loop-i-preserved
loop-i-preserved c = (omega arith, fill_more _ _ _ c.loop-i.invariant.1 c.side_at.ensures (omega arith))

pub returns : goal.returns
unfolding share_sides
returns c = let e : c.loop-i.i ≡ c.args.n = omega arith in rw e at c.loop-i.invariant.1
