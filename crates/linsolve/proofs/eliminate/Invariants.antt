-- `eliminate`: so far c columns are done, each with a pivot large enough.
use mathlib.Core.Path.{◌≡◌}
use Rattle.linsolve.specs.Solver.{system, cleared, eliminate_to}
use Rattle.linsolve.proofs.eliminate.Given as goal

abbrev pub invariant-loop-c : goal.invariant-loop-c
invariant-loop-c l = cleared (system l.a l.b) ≡ eliminate_to l.n (system l.initial.a l.initial.b) l.c
