use Prim.Native.Nat.{◌*◌, ◌<◌}
use mathlib.Core.Path.{sym, ap, ◌∙◌}
use native.Mathlib.Nat.{mod-lt, add_assoc}
use native.Mathlib.Omega.{arith}
use lib.ListN.{length, drop}
use Rattle.std.proofs.lemmas.List.{length-take}
use Rattle.rows.proofs.ByPlace.{row_label, weight_there}
use Rattle.density.proofs.Tables.{block_below}
use Rattle.em_variances.proofs.Sums.{summed_more, residual_there}
use Rattle.em_variances.proofs.Moments.add_row.Goals as goal

pub loop-a-preserved : goal.loop-a-preserved
loop-a-preserved c =
    let a = c.args in
    let s = a.smoothed.now in
    let sizes = s.sizes in
    let at = c.loop-a.a in
    let low : 0 < sizes.k = omega (arith, sizes.shape.low) in
    let few : c.loop-a.s < 16 = omega (arith, c.loop-a.invariant.low, sizes.shape.high) in
    let inside : at < sizes.windows = omega (arith, c.loop-a-test.true, ap length c.weights-g-items.ensures, length-take sizes.windows (drop (a.row.0 * sizes.windows) s.work.now)) in
    let next = c.next_label-s.ensures _ c.loop-a.invariant.now in
    let now = row_label sizes.k sizes.order sizes.windows a.row.0 at sizes.windows_value ∙ sym c.loop-a.invariant.now in
    let block : c.block_of-b.result < 16 = rw c.block_of-b.ensures (block_below a.q.now.variances_count c.loop-a.s 16 few) in
    let g = weight_there s.work.now (a.row.0 * sizes.windows) sizes.windows at c.weights-g-items.ensures inside in
    let ε = residual_there sizes.k sizes.order a.phis.now a.q.now.means s.y.now sizes.windows a.row.0 at _ inside c.residuals_row.ensures in
    record {
      now = next;
      low = rw next (mod-lt _ low);
      summed = rw (← add_assoc) (summed_more sizes.k a.q.now.variances_count s.work.now _ c.loop-a.invariant.summed block c.loop-a.s c.block_of-b.ensures now g ε c.add.ensures.squares c.add.ensures.weights);
    }
