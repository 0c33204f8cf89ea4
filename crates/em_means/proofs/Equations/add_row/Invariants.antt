-- A row of windows is summed, window by window.
use Prim.Native.Nat.{◌+◌, ◌*◌, ◌%◌, ◌<◌}
use mathlib.Core.Path.{◌≡◌}
use Rattle.em_means.specs.Steps.{Summed}
use Rattle.em_means.proofs.Equations.add_row.Given as goal

abbrev pub invariant-loop-a : goal.invariant-loop-a
invariant-loop-a l =
    let z = l.smoothed.sizes in
    record {
      now : l.s ≡ l.a % z.k;
      low : l.s < z.k;
      summed : Summed l.smoothed l.phis l.variances (l.fn.row.0 * z.windows + l.a) l.self;
    }
