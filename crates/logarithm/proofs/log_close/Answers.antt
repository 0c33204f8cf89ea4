-- `log_close`: f zero or not, k zero or not.
use borrow.Author.Tests.{eq-eqb, ne_eqb}
use Rattle.logarithm.specs.Log.{log_close}
use Rattle.logarithm.proofs.log_close.Goals as goal

pub returns-then-a-base : goal.returns-then-a-base
unfolding log_close
returns-then-a-base c = simp (c.if-f.true, eq-eqb _ _ c.if-a-base.true)

pub returns-then-f : goal.returns-then-f
unfolding log_close
returns-then-f c = simp (c.if-f.true, ne_eqb _ _ c.if-a-base.false) (cc)

pub returns-then-a-base-2 : goal.returns-then-a-base-2
unfolding log_close
returns-then-a-base-2 c = simp (c.if-f.false, eq-eqb _ _ c.if-a-base-2.true)

pub returns : goal.returns
unfolding log_close
returns c = simp (c.if-f.false, ne_eqb _ _ c.if-a-base-2.false) (cc)
