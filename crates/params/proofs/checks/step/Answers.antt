-- `step`: row i, column j lies within the table.
use Prim.Native.Nat.{◌+◌, ◌*◌, ◌<◌}
use native.Mathlib.Omega.{arith}
use Rattle.number.proofs.Table.{cell_below}
use Rattle.params.proofs.checks.step.Goals.{Start}
use Rattle.params.proofs.checks.step.Goals as goal

-- P[i][j] lies within the array
within : (c : Start) → c.args.i * c.args.q.means_count + c.args.j < 256
within c = cell_below _ _ _ c.requires.0 c.requires.1 c.requires.2

pub overflow_mul-result : goal.overflow_mul-result
overflow_mul-result c = omega (arith, within c)

pub overflow_add-result : goal.overflow_add-result
overflow_add-result c = omega (arith, within c)

pub offset_bounds-q-i : goal.offset_bounds-q-i
offset_bounds-q-i c = omega (arith, within c)

pub bounds-q-i : goal.bounds-q-i
bounds-q-i c = within c
