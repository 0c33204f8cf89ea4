-- `log_out`: with k = 0 and without.
use borrow.Author.Tests.{eq-eqb, ne_eqb}
use Rattle.logarithm.specs.Log.{log_out}
use Rattle.logarithm.proofs.log_out.Goals as goal

pub returns-then-a-base : goal.returns-then-a-base
unfolding log_out
returns-then-a-base c = simp (eq-eqb _ _ c.if-a-base.true)

pub returns : goal.returns
unfolding log_out
returns c = simp (ne_eqb _ _ c.if-a-base.false) (cc)
