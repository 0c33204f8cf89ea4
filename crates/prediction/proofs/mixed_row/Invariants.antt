-- The row by the sums over the label before, label by label.
use mathlib.Core.Path.{◌≡◌}
use Rattle.number.specs.Table.{fill_at}
use Rattle.prediction.specs.Steps.{mixed_at}
use Rattle.prediction.proofs.mixed_row.Given as goal

abbrev pub invariant-loop-s : goal.invariant-loop-s
invariant-loop-s l = l.row ≡ fill_at 0 (mixed_at l.k l.transition l.previous) l.s l.initial.row
