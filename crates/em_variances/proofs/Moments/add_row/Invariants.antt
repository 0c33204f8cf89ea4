-- A row of windows is summed, window by window.
use Prim.Native.Nat.{◌+◌, ◌*◌, ◌%◌, ◌<◌}
use mathlib.Core.Path.{◌≡◌}
use Rattle.em_variances.specs.Steps.{residual_in, Summed}
use Rattle.em_variances.proofs.Moments.add_row.Given as goal

abbrev pub invariant-loop-a : goal.invariant-loop-a
invariant-loop-a l =
    let sizes = l.smoothed.sizes in
    record {
      now : l.s ≡ l.a % sizes.k;
      low : l.s < sizes.k;
      summed : Summed sizes.k l.q.variances_count l.smoothed.work.now (residual_in sizes.k sizes.order sizes.windows l.phis l.q.means l.smoothed.y.now) (l.fn.row.0 * sizes.windows + l.a) l.self.squares l.self.weights;
    }
