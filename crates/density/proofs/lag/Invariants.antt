-- One lag more, block by block from the last.
use mathlib.Core.Path.{◌≡◌}
use Rattle.density.proofs.Lags.{lagged_from}
use Rattle.density.proofs.lag.Given as goal

abbrev pub invariant-loop-s : goal.invariant-loop-s
invariant-loop-s l = l.row ≡ lagged_from l.initial.row l.phis l.means l.reading l.k l.step l.s
