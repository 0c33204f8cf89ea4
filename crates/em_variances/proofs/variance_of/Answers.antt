-- A variance of its sums, or the old one.
use Rattle.em_variances.specs.Steps.{variance_of}
use Rattle.em_variances.proofs.variance_of.Goals as goal

pub returns-then-weight : goal.returns-then-weight
unfolding variance_of
returns-then-weight c = rw c.if-weight.true c.max.ensures

pub returns : goal.returns
unfolding variance_of
returns c = rw c.if-weight.false
