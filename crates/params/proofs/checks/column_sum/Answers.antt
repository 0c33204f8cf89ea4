use mathlib.Core.Path.{◌≡◌}
use native.Mathlib.Omega.{arith}
use Rattle.number.proofs.Sums.{sum_none, sum_more}
use Rattle.params.specs.Checks.{column_sum}
use Rattle.params.proofs.checks.column_sum.Goals as goal

pub loop-i-init : goal.loop-i-init
loop-i-init c = (omega arith, sum_none _)

pub loop-i-preserved : goal.loop-i-preserved
loop-i-preserved c = (omega arith, rw c.step-sum.ensures (sum_more _ _ c.loop-i.invariant.1))

pub returns : goal.returns
unfolding column_sum
returns c = let e : c.loop-i.i ≡ c.args.q.means_count = omega arith in rw e at c.loop-i.invariant.1
