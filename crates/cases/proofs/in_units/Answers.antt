-- `cases::in_units`: the significand, below 2 ^ 53.
use native.Mathlib.Omega.{arith}
use borrow.Author.Tests.{eq-eqb, ne_eqb}
use Rattle.cases.specs.Cases.{units_of}
use Rattle.cases.proofs.in_units.Goals as goal

pub returns-then-n-eq1021 : goal.returns-then-n-eq1021
unfolding units_of
returns-then-n-eq1021 c = (rw (← c.pattern-n.ensures, eq-eqb _ _ c.if-n-eq1021.true), omega arith)

pub returns-else-n-eq1021 : goal.returns-else-n-eq1021
unfolding units_of
returns-else-n-eq1021 c = (rw (← c.pattern-n.ensures, ne_eqb _ _ c.if-n-eq1021.false), omega arith)
