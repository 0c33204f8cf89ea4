-- `store` meets its contract: a row that is kept lies within memory.
use borrow.Author.Tests.{lt-ltb, le-ltb}
use Rattle.rows.specs.Steps.{stored}
use Rattle.rows.proofs.store.Goals as goal

pub returns-then-kept-j : goal.returns-then-kept-j
unfolding stored
returns-then-kept-j c = rw (le-ltb _ _ c.if-kept-j.true)

pub returns : goal.returns
unfolding stored
returns c = rw (lt-ltb _ _ c.if-kept-j.false) c.copy.ensures
