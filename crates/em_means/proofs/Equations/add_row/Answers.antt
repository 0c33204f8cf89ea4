use Prim.Native.Nat.{◌*◌, ◌<◌}
use mathlib.Core.Path.{refl, sym, ap, ◌∙◌}
use native.Mathlib.Nat.{mod-lt, add_assoc}
use native.Mathlib.Omega.{arith}
use lib.ListN.{length, drop}
use Rattle.std.proofs.lemmas.List.{length-take}
use Rattle.rows.proofs.ByPlace.{row_label, weight_there, precision_there}
use Rattle.em_means.proofs.Lags.{sensitivities_of_window}
use Rattle.em_means.proofs.Walk.{summed_more, less_lags_there}
use Rattle.em_means.proofs.Equations.add_row.Goals as goal

pub loop-a-preserved : goal.loop-a-preserved
loop-a-preserved c =
    let a = c.args in
    let s = a.smoothed.now in
    let z = s.sizes in
    let at = c.loop-a.a in
    let i = a.row.0 in
    let low : 0 < z.k = omega (arith, z.shape.low) in
    let inside : at < z.windows = omega (arith, c.loop-a-test.true, ap length c.weights-g-items.ensures, length-take z.windows (drop (i * z.windows) s.work.now)) in
    let next = c.next_label-s.ensures _ c.loop-a.invariant.now in
    let now = row_label z.k z.order z.windows i at z.windows_value ∙ sym c.loop-a.invariant.now in
    let g = weight_there s.work.now (i * z.windows) z.windows at c.weights-g-items.ensures inside in
    let left = less_lags_there z.k z.order z.windows i at _ a.phis.now s.y.now _ low refl inside now c.less_lags_by_label-ds.ensures in
    let weight = precision_there z.k a.variances.now s.work.now _ _ now in
    let sums = rw (sensitivities_of_window z i inside a.phis.now, g) at c.add_window.ensures in
    record {
      now = next;
      low = rw next (mod-lt _ low);
      summed = rw (← add_assoc) (summed_more s a.phis.now a.variances.now c.loop-a.invariant.summed _ _ _ refl weight left sums.table sums.side);
    }
