-- `cell_of`: the place lies within the table.
use Prim.Native.Nat.{◌+◌, ◌*◌, ◌<◌}
use native.Mathlib.Omega.{arith}
use Rattle.number.proofs.Table.{cell_below}
use Rattle.linsolve.proofs.cell_of.Goals.{Start}
use Rattle.linsolve.proofs.cell_of.Goals as goal

place : (c : Start) → c.args.i * c.args.n + c.args.j < 256
place c = cell_below _ _ _ c.requires.0 c.requires.1 c.requires.2

pub overflow_mul-result : goal.overflow_mul-result
overflow_mul-result c = omega (arith, place c)

pub overflow_add-result : goal.overflow_add-result
overflow_add-result c = omega (arith, place c)

pub offset_bounds-a-i : goal.offset_bounds-a-i
offset_bounds-a-i c = omega (arith, place c)

pub bounds-a-i : goal.bounds-a-i
bounds-a-i c = place c
