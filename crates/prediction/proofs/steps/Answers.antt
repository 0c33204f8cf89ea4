use native.Mathlib.Omega.{arith}
use Rattle.number.proofs.Table.{fill_at_none, fill_more}
use Rattle.prediction.proofs.Turns.{step_is}
use Rattle.prediction.proofs.steps.Goals as goal

pub loop-a-init : goal.loop-a-init
loop-a-init c = fill_at_none _ _ _

pub loop-a-preserved : goal.loop-a-preserved
loop-a-preserved c =
    let sizes = c.args.sizes in
    fill_more _ _ _ c.loop-a.invariant (step_is c.args.q.now sizes c.requires.0 c.requires.1 c.loop-a.a (omega arith)) (omega (arith, sizes.shape.few, sizes.windows_value))
