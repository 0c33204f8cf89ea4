-- The sum over the predecessors, oldest label rising.
use Prim.Native.Nat.{◌+◌, ◌*◌}
use mathlib.Core.Path.{◌≡◌}
use Rattle.number.specs.Sums.{sum_up}
use Rattle.number.specs.Table.{◌!◌}
use Rattle.prediction.proofs.sum_before.Given as goal

abbrev pub invariant-loop-x : goal.invariant-loop-x
invariant-loop-x l = l.acc ≡ sum_up (λ y. l.previous ! (l.c + y * l.power)) l.x
