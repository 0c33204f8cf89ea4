-- `stays`: so far the durations of i labels, +0 in the other places.
use mathlib.Core.Path.{◌≡◌}
use Prim.Native.Nat.{◌≤◌}
use lib.ListN.{replicate}
use Rattle.number.specs.Table.{fill_at}
use Rattle.number.specs.Number.{zero⁺}
use Rattle.params.specs.Durations.{duration}
use Rattle.params.proofs.stays.Given as goal

abbrev pub invariant-loop-i : goal.invariant-loop-i
invariant-loop-i l = (l.i ≤ l.n) × (l.values ≡ fill_at 0 (duration l.q) l.i (replicate 16 zero⁺))
