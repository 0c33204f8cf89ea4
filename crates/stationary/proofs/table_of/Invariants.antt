-- `table_of` meets its contract: the system's table, place by place.
use mathlib.Core.Path.{◌≡◌}
use Prim.Native.Nat.{◌*◌, ◌≤◌}
use lib.ListN.{replicate}
use Rattle.number.specs.Number.{zero⁺}
use Rattle.number.specs.Table.{fill_at}
use Rattle.stationary.specs.Stationary.{entry}
use Rattle.stationary.proofs.table_of.Given as goal

abbrev pub invariant-loop-e : goal.invariant-loop-e
invariant-loop-e l = (l.e ≤ l.n * l.n) × (l.a ≡ fill_at 0 (entry l.n l.transition) l.e (replicate 256 zero⁺)) × (l.n * l.n ≤ 256)
