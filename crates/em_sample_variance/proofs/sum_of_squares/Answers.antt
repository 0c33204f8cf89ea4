use mathlib.Core.Path.{◌≡◌}
use native.Mathlib.Omega.{arith}
use lib.ListN.{length}
use Rattle.number.proofs.Sums.{sum_none, sum_more}
use Rattle.em_sample_variance.specs.Series.{square_at}
use Rattle.em_sample_variance.proofs.sum_of_squares.Goals as goal

pub loop-x-init : goal.loop-x-init
loop-x-init c = sum_none _

pub loop-x-preserved : goal.loop-x-preserved
unfolding square_at
loop-x-preserved c = sum_more _ _ c.loop-x.invariant

pub returns : goal.returns
returns c = let e : c.loop-x.x-index ≡ length c.args.y.now = omega arith in rw e at c.loop-x.invariant
