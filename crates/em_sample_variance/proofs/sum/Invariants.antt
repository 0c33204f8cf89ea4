-- The readings summed, one after another.
use mathlib.Core.Path.{◌≡◌}
use Rattle.number.specs.Table.{◌!◌}
use Rattle.number.specs.Sums.{sum_up}
use Rattle.em_sample_variance.proofs.sum.Given as goal

abbrev pub invariant-loop-x : goal.invariant-loop-x
invariant-loop-x l = l.acc ≡ sum_up (λ j. l.y ! j) l.x-index
