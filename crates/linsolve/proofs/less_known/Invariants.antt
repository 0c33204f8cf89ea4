-- `less_known`: so far the unknowns up to j are taken off.
use Prim.Native.Nat.{suc, ◌-◌}
use mathlib.Core.Path.{◌≡◌}
use Rattle.linsolve.specs.Solver.{system, less_known}
use Rattle.linsolve.proofs.less_known.Given as goal

abbrev pub invariant-loop-j : goal.invariant-loop-j
invariant-loop-j l = l.rest ≡ less_known l.n (system l.a l.b) l.x l.r (l.j - suc l.r)
