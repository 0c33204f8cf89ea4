-- `tabulate` meets its contract: the table of results, row by row.
use Prim.Native.Nat.{◌*◌}
use mathlib.Core.Path.{◌≡◌}
use lib.ListN.{length}
use Rattle.number.specs.Table.{fill_at}
use Rattle.rows.specs.Steps.{label_sum_at}
use Rattle.rows.proofs.tabulate.Given as goal

abbrev pub invariant-loop-i : goal.invariant-loop-i
invariant-loop-i l = (length l.table ≡ length l.initial.table) × (l.table ≡ fill_at 0 (label_sum_at l.k l.power l.m l.work) (l.i * l.k) l.initial.table)
