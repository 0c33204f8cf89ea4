use native.Mathlib.Omega.{arith}
use Rattle.number.proofs.Table.{fill_more}
use Rattle.density.proofs.Rows.{again_own, again_back}
use Rattle.density.proofs.repeat.Goals as goal

pub loop-a-init : goal.loop-a-init
loop-a-init c = again_own _ _ (omega arith)

pub loop-a-preserved : goal.loop-a-preserved
loop-a-preserved c =
    let inv = c.loop-a.invariant in
    fill_more _ _ _ inv (again_back _ _ c.args.row.now inv c.requires.0 (omega arith)) (omega arith)
