-- `memory` meets its contract: its test is the definition's.
use borrow.Author.Tests.{lt-ltb, le-ltb}
use Rattle.binding.proofs.memory.Goals as goal

pub returns-then-lent-needed : goal.returns-then-lent-needed
returns-then-lent-needed c = rw (lt-ltb _ _ c.if-lent-needed.true)

pub returns : goal.returns
returns c = rw (le-ltb _ _ c.if-lent-needed.false)
