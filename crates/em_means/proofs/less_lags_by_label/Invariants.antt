-- Readings less their lags, label by label.
use Prim.Native.Nat.{◌+◌}
use mathlib.Core.Path.{◌≡◌}
use lib.ListN.{replicate}
use Rattle.number.specs.Number.{zero⁺}
use Rattle.number.specs.Table.{fill_at}
use Rattle.em_means.specs.Steps.{less_lags_at}
use Rattle.em_means.proofs.less_lags_by_label.Given as goal

abbrev pub invariant-loop-s : goal.invariant-loop-s
invariant-loop-s l =
    let z = l.smoothed.sizes in l.ds ≡ fill_at 0 (less_lags_at z.k z.order l.phis l.smoothed.y.now (z.order + l.fn.row.0)) l.s (replicate 16 zero⁺)
