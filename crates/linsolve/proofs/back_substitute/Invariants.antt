-- `back_substitute`: so far the unknowns from r on.
use Prim.Native.Nat.{◌-◌}
use mathlib.Core.Path.{◌≡◌}
use Rattle.linsolve.specs.Solver.{system, back_to}
use Rattle.linsolve.proofs.back_substitute.Given as goal

abbrev pub invariant-loop-r : goal.invariant-loop-r
invariant-loop-r l = l.x ≡ back_to l.n (system l.a l.b) (l.n - l.r)
