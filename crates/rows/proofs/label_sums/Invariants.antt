-- `label_sums` meets its contract: the probabilities of the labels of one row, place by place.
use mathlib.Core.Path.{◌≡◌}
use lib.ListN.{length}
use Rattle.number.specs.Table.{fill_at}
use Rattle.rows.specs.Steps.{label_sum}
use Rattle.rows.proofs.label_sums.Given as goal

abbrev pub invariant-loop-i : goal.invariant-loop-i
invariant-loop-i l = (length l.table ≡ length l.initial.table) × (l.table ≡ fill_at l.at (label_sum l.k l.power l.work) l.i l.initial.table)
