-- The residuals of a row: without lags, then the lags.
use Prim.Native.Nat.{◌<◌}
use mathlib.Core.Path.{ap}
use native.Mathlib.Omega.{arith}
use Rattle.window.specs.declared.Time.{Time}
use Rattle.density.proofs.Means.{lags_on}
use Rattle.em_variances.specs.Steps.{residual_by}
use Rattle.em_variances.proofs.residuals_row.Goals as goal

pub returns : goal.returns
unfolding residual_by
returns c =
    let a = c.args in
    let s = a.smoothed.now in
    let pos : 0 < s.sizes.k = omega (arith, s.sizes.shape.low) in
    let t = ap (λ (t : Time). t.0) c.time_of-t.ensures in
    let added = rw s.sizes.windows_value at c.add_lags.ensures in
    rw (← t, s.sizes.windows_value) (lags_on _ s.sizes.k s.sizes.order a.phis.now a.means.now s.y.now c.time_of-t.result.0 _ a.residuals.now pos c.start.ensures added)
