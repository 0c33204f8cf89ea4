use mathlib.Core.Path.{refl}
use native.Mathlib.Omega.{arith}
use Rattle.number.proofs.Table.{fill_at_none, fill_at_more}
use lib.ListN.{length-set}
use Rattle.rows.proofs.label_sums.Goals as goal

pub loop-i-init : goal.loop-i-init
loop-i-init c = (refl, fill_at_none _ _ _)

pub loop-i-preserved : goal.loop-i-preserved
loop-i-preserved c = (simp length-set (omega arith), fill_at_more _ _ _ _ c.loop-i.invariant.1 c.label_sum.ensures (omega arith))
