-- `cases::is`: the same pattern.
use Rattle.cases.specs.Cases.{same}
use Rattle.cases.proofs.is.Goals as goal

pub returns : goal.returns
unfolding same
returns c = rw (c.pattern.ensures, c.pattern-2.ensures)
