-- `transition`: 12 where the length is wrong, else the entries before the columns.
use borrow.Author.Rules.{rules}
use native.Mathlib.Nat.{mul-le-mul}
use native.Mathlib.Omega.{arith}
use borrow.Author.Tests.{eq-eqb, ne_eqb}
use Rattle.params.proofs.checks.transition.Goals as goal

pub overflow_mul-square : goal.overflow_mul-square
overflow_mul-square c = omega (arith, mul-le-mul c.requires c.requires)

pub returns-then-q-square : goal.returns-then-q-square
returns-then-q-square c = rw (ne_eqb _ _ c.if-q-square.true)

pub entries-requires : goal.entries-requires
entries-requires c = omega (arith, mul-le-mul c.requires c.requires)

pub returns-in_err-entries : goal.returns-in_err-entries
returns-in_err-entries c = rw (eq-eqb _ _ c.if-q-square.false) (search rules)

pub returns : goal.returns
returns c = rw (eq-eqb _ _ c.if-q-square.false) (search rules)
