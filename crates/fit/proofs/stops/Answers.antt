-- `stops` meets its contract: from the second pass on, the gain against tol.
use Rattle.fit.specs.Fit.{stops}
use lib.Ieee.{le}
use borrow.Author.Rules.{rules}
use Rattle.fit.proofs.stops.Goals as goal

pub returns : goal.returns
unfolding le stops
returns c = search rules
