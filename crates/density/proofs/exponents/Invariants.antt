-- The exponents of the densities, window by window.
use mathlib.Core.Path.{◌≡◌}
use Rattle.number.specs.Table.{fill_at}
use Rattle.density.specs.Steps.{exponent_at}
use Rattle.density.proofs.exponents.Given as goal

abbrev pub invariant-loop-a : goal.invariant-loop-a
invariant-loop-a l = l.row ≡ fill_at 0 (exponent_at l.reading l.means l.scales.deviations l.scales.logarithms) l.a l.initial.row
