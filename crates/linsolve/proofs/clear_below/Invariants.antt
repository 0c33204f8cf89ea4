-- `clear_below`: so far the rows up to r are cleared.
use Prim.Native.Nat.{suc, ◌-◌}
use mathlib.Core.Path.{◌≡◌}
use Rattle.linsolve.specs.Solver.{system, clear_to}
use Rattle.linsolve.proofs.clear_below.Given as goal

abbrev pub invariant-loop-r : goal.invariant-loop-r
invariant-loop-r l = system l.a l.b ≡ clear_to l.n l.c (system l.initial.a l.initial.b) (l.r - suc l.c)
