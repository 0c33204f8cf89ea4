use mathlib.Core.Path.{◌≡◌}
use native.Mathlib.Omega.{arith}
use Prim.Native.Nat.{suc, ◌-◌, ◌<◌}
use Rattle.density.proofs.Lags.{lagged_none, lagged_more, lagged_all}
use Rattle.density.proofs.lag.Goals as goal

pub loop-s-init : goal.loop-s-init
loop-s-init c = lagged_none _ _ _ _ _ _

pub loop-s-preserved : goal.loop-s-preserved
loop-s-preserved c =
    let e : suc (c.loop-s.s - 1) ≡ c.loop-s.s = omega arith in
    let h : c.loop-s.s - 1 < c.args.k = omega arith in
    lagged_more _ _ _ _ _ _ _ _ e c.loop-s.invariant c.lag_block.ensures h c.requires.5 (omega arith)

pub returns : goal.returns
returns c =
    let e : c.loop-s.s ≡ 0 = omega arith in
    lagged_all _ _ _ _ _ _ (rw e at c.loop-s.invariant)
