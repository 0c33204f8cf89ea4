-- `rule_of`: 2 is rule 2.
use borrow.Author.Tests.{eq-eqb, ne_eqb}
use Rattle.prediction.specs.Prediction.{rule_of}
use Rattle.prediction.proofs.rule_of.Goals as goal

pub returns-then-number-eq2 : goal.returns-then-number-eq2
unfolding rule_of
returns-then-number-eq2 c = rw (eq-eqb _ _ c.if-number-eq2.true)

pub returns : goal.returns
unfolding rule_of
returns c = rw (ne_eqb _ _ c.if-number-eq2.false)
