-- `log_mid`: with k = 0 and without.
use borrow.Author.Tests.{eq-eqb, ne_eqb}
use Rattle.logarithm.specs.Log.{log_mid}
use Rattle.logarithm.proofs.log_mid.Goals as goal

pub returns-then-a-base : goal.returns-then-a-base
unfolding log_mid
returns-then-a-base c = simp (eq-eqb _ _ c.if-a-base.true)

pub returns : goal.returns
unfolding log_mid
returns c = simp (ne_eqb _ _ c.if-a-base.false) (cc)
