use Prim.Native.Nat.{ℕ, ◌*◌, ◌<◌, ◌≤◌}
use mathlib.Core.Path.{sym, ap, ◌∙◌}
use native.Mathlib.Nat.{mod-lt, add_assoc}
use native.Mathlib.Omega.{arith}
use lib.Ieee.{Float}
use lib.ListN.{length, drop}
use Rattle.std.proofs.lemmas.List.{length-take}
use Rattle.number.specs.Number.{◌⊘◌}
use Rattle.number.specs.Table.{◌!◌}
use Rattle.rows.proofs.ByPlace.{row_label, weight_there, precision_there}
use Rattle.density.proofs.Tables.{block_below}
use Rattle.em_coefficients.proofs.Sums.{summed_more, distance_there}
use Rattle.em_coefficients.proofs.Equations.add_row.Goals.{After-block_of-b}
use Rattle.em_coefficients.proofs.Equations.add_row.Goals as goal

block : (c : After-block_of-b) → c.block_of-b.result < 16
block c =
    let few : c.loop-a.s < 16 = omega (arith, c.loop-a.invariant.low, c.args.smoothed.now.sizes.shape.high) in
    rw c.block_of-b.ensures (block_below c.args.q.now.ar_blocks c.loop-a.s 16 few)

pub loop-a-preserved : goal.loop-a-preserved
loop-a-preserved c =
    let a = c.args in
    let s = a.smoothed.now in
    let sizes = s.sizes in
    let at = c.loop-a.a in
    let low : 0 < sizes.k = omega (arith, sizes.shape.low) in
    let inside : at < sizes.windows = omega (arith, c.loop-a-test.true, ap length c.weights-g-items.ensures, length-take sizes.windows (drop (a.row.0 * sizes.windows) s.work.now)) in
    let next = c.next_label-s.ensures _ c.loop-a.invariant.now in
    let now = row_label sizes.k sizes.order sizes.windows a.row.0 at sizes.windows_value ∙ sym c.loop-a.invariant.now in
    let g = weight_there s.work.now (a.row.0 * sizes.windows) sizes.windows at c.weights-g-items.ensures inside in
    let v = ap (λ (z : Float). z ⊘ a.variances.now ! c.loop-a.s) g ∙ precision_there sizes.k a.variances.now s.work.now _ _ now in
    let x = λ (l : ℕ) (h : l ≤ sizes.order). distance_there sizes.k sizes.order sizes.windows a.row.0 at l s.y.now a.q.now.means a.distances.now low inside h c.distances_at.ensures in
    record {
      now = next;
      low = rw next (mod-lt _ low);
      summed = rw (← add_assoc) (summed_more sizes.k sizes.order a.q.now.ar_blocks s.work.now _ _ c.loop-a.invariant.summed c.requires.row_lt_rows.1 sizes.few_lags _ c.loop-a.s (block (goal.at.loop-a-preserved c).After-block_of-b) c.block_of-b.ensures now g v x c.weigh.ensures.tables c.weigh.ensures.sides);
    }
