-- The sum over the label before, from 0 up.
use mathlib.Core.Path.{◌≡◌}
use Rattle.number.specs.Number.{◌⊗◌}
use Rattle.number.specs.Sums.{sum_up}
use Rattle.number.specs.Table.{◌!◌, cell}
use Rattle.prediction.proofs.mixed_of.Given as goal

abbrev pub invariant-loop-x : goal.invariant-loop-x
invariant-loop-x l = l.acc ≡ sum_up (λ y. cell l.k l.transition l.s y ⊗ l.previous ! y) l.x
