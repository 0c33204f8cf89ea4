-- The first predictions, window by window.
use mathlib.Core.Path.{◌≡◌}
use Rattle.number.specs.Table.{fill_at}
use Rattle.prediction.specs.Steps.{first_at}
use Rattle.prediction.proofs.first_row.Given as goal

abbrev pub invariant-loop-a : goal.invariant-loop-a
invariant-loop-a l = l.row ≡ fill_at 0 (first_at l.q l.shares) l.a l.initial.row
