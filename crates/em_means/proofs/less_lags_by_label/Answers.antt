use native.Mathlib.Omega.{arith}
use Rattle.number.proofs.Table.{fill_at_none, fill_more}
use Rattle.em_means.proofs.less_lags_by_label.Goals as goal

pub loop-s-init : goal.loop-s-init
loop-s-init c = fill_at_none 0 _ _

pub loop-s-preserved : goal.loop-s-preserved
loop-s-preserved c =
    fill_more _ _ _ c.loop-s.invariant c.less_lags.ensures (omega (arith, c.args.smoothed.now.sizes.shape.high, c.loop-s-test.true))
