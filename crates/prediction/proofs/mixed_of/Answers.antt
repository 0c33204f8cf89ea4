use mathlib.Core.Path.{◌≡◌}
use native.Mathlib.Omega.{arith}
use Rattle.number.proofs.Sums.{sum_none, sum_more}
use Rattle.prediction.specs.Steps.{mixed_at}
use Rattle.prediction.proofs.mixed_of.Goals as goal

pub loop-x-init : goal.loop-x-init
loop-x-init c = sum_none _

pub loop-x-preserved : goal.loop-x-preserved
loop-x-preserved c = sum_more _ _ c.loop-x.invariant

pub returns : goal.returns
unfolding mixed_at
returns c = let e : c.loop-x.x ≡ c.args.k = omega arith in rw e at c.loop-x.invariant
