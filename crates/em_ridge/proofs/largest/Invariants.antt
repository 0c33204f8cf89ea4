-- The largest place of the diagonal, row by row.
use mathlib.Core.Path.{◌≡◌}
use Rattle.em_ridge.specs.Ridge.{largest_to}
use Rattle.em_ridge.proofs.largest.Given as goal

abbrev pub invariant-loop-i : goal.invariant-loop-i
invariant-loop-i l = l.scale ≡ largest_to l.n l.a l.i
