-- `passes`: in each arm the test is the one that the arm names.
use Rattle.number.specs.Tests.{holds}
use Rattle.number.proofs.passes.Goals as goal

pub returns-in-Finite : goal.returns-in-Finite
unfolding holds
returns-in-Finite c = rw c.in-Finite.is c.is_finite.ensures

pub returns-in-Usable : goal.returns-in-Usable
unfolding holds
returns-in-Usable c = rw c.in-Usable.is c.is_usable.ensures

pub returns-in-Between : goal.returns-in-Between
unfolding holds
returns-in-Between c = rw (c.in-Between.is, c.is_finite-in-Between.ensures)
