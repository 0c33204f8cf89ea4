-- `pivot_of`: so far the first of the largest from the diagonal down.
use Rattle.linsolve.specs.Promises.{Best}
use Rattle.linsolve.proofs.pivot_of.Given as goal

abbrev pub invariant-loop-r : goal.invariant-loop-r
invariant-loop-r l = Best l.n l.a l.c l.r l.row l.magnitude
