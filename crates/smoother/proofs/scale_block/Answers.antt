use mathlib.Core.Path.{refl}
use native.Mathlib.Omega.{arith}
use lib.ListN.{length-set}
use Rattle.number.proofs.Table.{fill_at_none, fill_at_more}
use Rattle.smoother.proofs.Scaled.{scaled_here}
use Rattle.smoother.proofs.scale_block.Goals as goal

pub loop-c-init : goal.loop-c-init
loop-c-init c = (refl, fill_at_none _ _ _)

pub loop-c-preserved : goal.loop-c-preserved
loop-c-preserved c =
    let inv = c.loop-c.invariant in
    (simp length-set (omega arith), fill_at_more _ _ _ _ inv.1 (scaled_here _ c.args.at _ c.args.work.now inv.1 (omega arith)) (omega arith))
