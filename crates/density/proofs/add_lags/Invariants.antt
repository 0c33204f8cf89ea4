-- The lags of a row, one after another.
use Prim.Native.Nat.{suc, ◌^◌}
use mathlib.Core.Path.{◌≡◌}
use Rattle.number.specs.Table.{fill_at}
use Rattle.density.proofs.Means.{lagged_row}
use Rattle.density.proofs.add_lags.Given as goal

abbrev pub invariant-loop-l : goal.invariant-loop-l
invariant-loop-l l =
    (l.step ≡ l.k ^ suc l.l) × (l.row ≡ fill_at 0 (lagged_row l.initial.row l.k l.fn.sizes.order l.phis l.means l.y l.at l.l) l.step l.initial.row)
