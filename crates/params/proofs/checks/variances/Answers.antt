-- `variances`: 12 where their count is wrong, else each variance.
use Rattle.params.proofs.Tests.{at_most}
use mathlib.Core.Path.{ap}
use mathlib.Core.Bool.{not}
use Rattle.params.proofs.checks.variances.Goals as goal

pub returns-then-not-one_or_each : goal.returns-then-not-one_or_each
returns-then-not-one_or_each c = rw (← c.one_or_each.ensures, (ap not c.if-not-one_or_each.true))

pub each_variance-requires : goal.each_variance-requires
each_variance-requires c = at_most _ _ c.one_or_each.ensures (ap not c.if-not-one_or_each.false) c.requires

pub returns : goal.returns
returns c = rw (← c.one_or_each.ensures, (ap not c.if-not-one_or_each.false)) c.each_variance.ensures
