-- `entry_at` meets its contract: ones in the last row, else I - P.
use native.Mathlib.Nat.{div-le_self}
use native.Mathlib.Omega.{arith}
use Rattle.stationary.proofs.Entries.{in_last_row, on_diagonal, off_diagonal}
use Rattle.stationary.proofs.entry_at.Goals as goal

pub overflow_add-e : goal.overflow_add-e
overflow_add-e c = omega (arith, div-le_self c.args.e c.args.n)

pub returns-then-e-n : goal.returns-then-e-n
returns-then-e-n c = in_last_row c.args.n c.args.transition.now c.args.e c.if-e-n.true

pub returns-then-e-n-2 : goal.returns-then-e-n-2
returns-then-e-n-2 c = on_diagonal c.args.n c.args.transition.now c.args.e c.if-e-n.false c.if-e-n-2.true

pub returns : goal.returns
returns c = off_diagonal c.args.n c.args.transition.now c.args.e c.if-e-n.false c.if-e-n-2.false
