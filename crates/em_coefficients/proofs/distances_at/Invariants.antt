-- The distances by lag and label, place by place.
use mathlib.Core.Path.{◌≡◌}
use Rattle.number.specs.Table.{fill_at}
use Rattle.em_coefficients.specs.Steps.{distance_by}
use Rattle.em_coefficients.proofs.distances_at.Given as goal

abbrev pub invariant-loop-e : goal.invariant-loop-e
invariant-loop-e l = l.distances ≡ fill_at 0 (distance_by l.k l.smoothed.y.now (record { 0 = l.at }) l.means) l.e l.initial.distances
