-- The ridge on the diagonal, row by row.
use Prim.Native.Nat.{◌*◌}
use mathlib.Core.Path.{◌≡◌}
use Rattle.em_ridge.proofs.Diagonal.{ridged_to}
use Rattle.number.specs.Table.{fill_at}
use Rattle.em_ridge.proofs.add_ridge.Given as goal

abbrev pub invariant-loop-i : goal.invariant-loop-i
invariant-loop-i l = l.a ≡ fill_at 0 (ridged_to l.n l.initial.a l.scale l.i) (l.n * l.n) l.initial.a
