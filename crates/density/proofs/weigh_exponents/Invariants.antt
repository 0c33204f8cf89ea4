-- Prediction × exponential window by window, each in the place of its exponent, and their sum.
use mathlib.Core.Path.{◌≡◌}
use Rattle.number.specs.Sums.{sum_up}
use Rattle.number.specs.Table.{fill_at}
use Rattle.density.specs.Steps.{weight_of}
use Rattle.density.proofs.weigh_exponents.Given as goal

abbrev pub invariant-loop-a : goal.invariant-loop-a
invariant-loop-a l = (l.row ≡ fill_at 0 (weight_of l.predicted l.initial.row) l.a l.initial.row) × (l.total ≡ sum_up (weight_of l.predicted l.initial.row) l.a)
