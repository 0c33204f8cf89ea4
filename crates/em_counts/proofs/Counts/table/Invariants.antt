-- The cells of the new table, one after another.
use Prim.Native.Nat.{◌%◌}
use mathlib.Core.Path.{◌≡◌}
use lib.ListN.{replicate}
use Rattle.em_counts.specs.Steps.{divided_at}
use Rattle.number.specs.Table.{fill_at}
use Rattle.number.specs.Number.{zero⁺}
use Rattle.em_counts.proofs.Counts.table.Given as goal

abbrev pub invariant-loop-e : goal.invariant-loop-e
invariant-loop-e l = (l.j ≡ l.e % l.k) × (l.row ≡ fill_at 0 (divided_at l.k l.transition l.self.cells l.self.columns) l.e (replicate 256 zero⁺))
