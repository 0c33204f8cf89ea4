-- A later prediction, block by block of the windows that share a sum.
use Prim.Native.Nat.{◌*◌}
use mathlib.Core.Path.{◌≡◌}
use Rattle.number.specs.Table.{fill_at}
use Rattle.prediction.specs.Steps.{stepped_at}
use Rattle.prediction.proofs.stepped_row.Given as goal

abbrev pub invariant-loop-c : goal.invariant-loop-c
invariant-loop-c l = l.row ≡ fill_at 0 (stepped_at l.k l.power l.steps l.previous) (l.c * l.k) l.initial.row
