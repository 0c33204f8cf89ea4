-- `less_row`: so far the columns up to j.
use Prim.Native.Nat.{◌+◌, ◌-◌, ◌*◌}
use mathlib.Core.Path.{◌≡◌}
use Rattle.number.specs.Table.{fill_at}
use Rattle.linsolve.specs.Solver.{less}
use Rattle.linsolve.proofs.less_row.Given as goal

abbrev pub invariant-loop-j : goal.invariant-loop-j
invariant-loop-j l = l.a ≡ fill_at (l.r * l.n + l.c) (less l.n l.initial.a l.c l.r l.f) (l.j - l.c) l.initial.a
