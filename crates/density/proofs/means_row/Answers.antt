-- The means of a row: the labels' own, then the lags.
use Prim.Native.Nat.{◌<◌}
use native.Mathlib.Omega.{arith}
use Rattle.density.proofs.Means.{lags_on, means_are}
use Rattle.density.proofs.means_row.Goals as goal

pub returns : goal.returns
returns c q parts =
    let a = c.args in
    let sizes = a.sizes in
    let pos : 0 < sizes.k = omega (arith, sizes.shape.low) in
    let added = rw sizes.windows_value at c.add_lags.ensures in
    let row = lags_on _ sizes.k sizes.order a.phis.now a.means.now a.y.now a.t.0 _ a.row.now pos c.copy.ensures added in
    rw sizes.windows_value (means_are parts a.y.now a.t a.row.now pos row)
