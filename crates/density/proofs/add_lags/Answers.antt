use Prim.Native.Nat.{◌+◌, ◌*◌, ◌<◌, ◌≤◌}
use mathlib.Core.Path.{◌≡◌}
use native.Mathlib.Nat.{mul_comm, one-le-pow}
use native.Mathlib.Omega.{arith}
use lib.ListN.{length-drop}
use Rattle.density.proofs.Rows.{rest_of}
use Rattle.density.proofs.Means.{lags_none, lags_more, step_first, step_next, step_fits, phis_fit, step_whole}
use Rattle.density.proofs.add_lags.Goals.{In-loop-l}
use Rattle.density.proofs.add_lags.Goals as goal

pub loop-l-init : goal.loop-l-init
loop-l-init c = (step_first _, lags_none _ _ _ _ _ _ _ (omega (arith, c.args.sizes.shape.high)))

-- the windows of one label more fit the row, and the coefficients of a lag theirs
fits : (c : In-loop-l) → c.args.sizes.k * c.loop-l.step ≤ 256
fits c = rw c.loop-l.invariant.0 (step_fits c.args.sizes.shape _ c.loop-l-test.true)

from-fits : (c : In-loop-l) → c.loop-l.l * c.args.sizes.k + c.args.sizes.k ≤ 112
from-fits c = phis_fit c.args.sizes.shape _ c.loop-l-test.true

pub offset_bounds-phis-l : goal.offset_bounds-phis-l
offset_bounds-phis-l c = omega (arith, from-fits (goal.at.offset_bounds-phis-l c).In-loop-l)

pub slice_bounds-lag-count : goal.slice_bounds-lag-count
slice_bounds-lag-count c = omega (arith, from-fits (goal.at.slice_bounds-lag-count c).In-loop-l)

pub slice_bounds-lag-start : goal.slice_bounds-lag-start
slice_bounds-lag-start c = omega (arith, from-fits (goal.at.slice_bounds-lag-start c).In-loop-l)

pub lag-requires : goal.lag-requires
lag-requires c =
    let shape = c.args.sizes.shape in
    let low : 0 < c.args.sizes.k = omega (arith, shape.low) in
    let step = c.loop-l.invariant.0 in (
      low,
      shape.high,
      rw (rest_of c.loop-l.l c.args.sizes.k c.args.phis.now c.told-phis) (rw (length-drop, c.told-phis) (omega (arith, from-fits (goal.at.lag-requires c).In-loop-l))),
      fits (goal.at.lag-requires c).In-loop-l,
      rw step (one-le-pow _ _ low),
      rw step (step_whole _ _),
    )

pub overflow_mul-step : goal.overflow_mul-step
overflow_mul-step c =
    omega (arith, fits (goal.at.overflow_mul-step c).In-loop-l, mul_comm c.loop-l.step c.args.sizes.k)

pub loop-l-preserved : goal.loop-l-preserved
loop-l-preserved c =
    let inv = c.loop-l.invariant in
    let a = c.args in
    let sizes = a.sizes in (
      step_next _ _ inv.0,
      lags_more a.row.now sizes.k sizes.order a.phis.now a.means.now a.y.now a.t.0 (omega (arith, sizes.shape.low)) c.loop-l.l c.loop-l.step inv.1 inv.0 c.loop-l-test.true (rw (rest_of c.loop-l.l sizes.k a.phis.now c.told-phis) at c.lag.ensures),
    )

pub returns : goal.returns
returns c =
    let sizes = c.args.sizes in
    let e : c.loop-l.l ≡ sizes.order = omega arith in
    rw sizes.windows_value (rw e at rw c.loop-l.invariant.0 at c.loop-l.invariant.1)
