-- `scale_row` meets its contract: a row times its sums, block by block.
use Prim.Native.Nat.{◌*◌}
use mathlib.Core.Path.{◌≡◌}
use lib.ListN.{length, drop}
use Rattle.number.specs.Table.{fill_at}
use Rattle.smoother.specs.Steps.{blockwise}
use Rattle.smoother.proofs.scale_row.Given as goal

abbrev pub invariant-loop-x : goal.invariant-loop-x
invariant-loop-x l = (length l.work ≡ length l.initial.work) × (l.work ≡ fill_at l.at (blockwise l.shared.count l.sums (drop l.at l.initial.work)) (l.x * l.shared.count) l.initial.work)
