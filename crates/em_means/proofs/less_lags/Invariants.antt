-- A reading less its lags, lag by lag.
use mathlib.Core.Path.{◌≡◌}
use Rattle.em_means.specs.Steps.{less_lags_to}
use Rattle.em_means.proofs.less_lags.Given as goal

abbrev pub invariant-loop-l : goal.invariant-loop-l
invariant-loop-l l = l.d ≡ less_lags_to l.sizes.k l.phis l.smoothed.y.now l.at l.s l.l
