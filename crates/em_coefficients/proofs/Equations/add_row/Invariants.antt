-- A row of windows is summed, window by window.
use Prim.Native.Nat.{◌+◌, ◌*◌, ◌%◌, ◌<◌}
use mathlib.Core.Path.{◌≡◌}
use Rattle.rows.specs.Steps.{precision_in}
use Rattle.em_coefficients.specs.Steps.{distance_in, Summed}
use Rattle.em_coefficients.proofs.Equations.add_row.Given as goal

abbrev pub invariant-loop-a : goal.invariant-loop-a
invariant-loop-a l =
    let sizes = l.smoothed.sizes in
    let work = l.smoothed.work.now in
    record {
      now : l.s ≡ l.a % sizes.k;
      low : l.s < sizes.k;
      summed : Summed sizes.k sizes.order l.q.ar_blocks work (precision_in sizes.k l.variances work) (distance_in sizes.k sizes.order sizes.windows l.smoothed.y.now l.q.means) (l.fn.row.0 * sizes.windows + l.a) l.self.tables l.self.sides;
    }
