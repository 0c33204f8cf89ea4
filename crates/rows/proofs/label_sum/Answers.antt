use mathlib.Core.Path.{refl}
use Rattle.number.proofs.Sums.{sum_none, sum_next}
use Rattle.rows.specs.Steps.{label_sum}
use Rattle.rows.proofs.label_sum.Goals as goal

pub loop-j-init : goal.loop-j-init
unfolding label_sum
loop-j-init c = sum_none _

pub loop-j-preserved : goal.loop-j-preserved
unfolding label_sum
loop-j-preserved c = sum_next _ _ c.loop-j.invariant refl
