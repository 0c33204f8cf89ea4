-- `sides_of` meets its contract: the right sides, place by place.
use mathlib.Core.Path.{◌≡◌}
use Prim.Native.Nat.{◌≤◌}
use lib.ListN.{replicate}
use Rattle.number.specs.Number.{zero⁺}
use Rattle.number.specs.Table.{fill_at}
use Rattle.stationary.specs.Stationary.{side}
use Rattle.stationary.proofs.sides_of.Given as goal

abbrev pub invariant-loop-i : goal.invariant-loop-i
invariant-loop-i l = (l.i ≤ l.n) × (l.b ≡ fill_at 0 (side l.n) l.i (replicate 16 zero⁺))
