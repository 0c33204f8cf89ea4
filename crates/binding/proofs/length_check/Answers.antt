-- `length_check` meets its contract: its tests are the definition's.
use borrow.Author.Tests.{lt-ltb, le-ltb, le-leb, lt-leb}
use Rattle.binding.specs.Binding.{length_check}
use Rattle.binding.proofs.length_check.Goals as goal

pub returns-then-t-order : goal.returns-then-t-order
unfolding length_check
returns-then-t-order c = rw (le-leb _ _ c.if-t-order.true)

pub returns-then-t-gt4096 : goal.returns-then-t-gt4096
unfolding length_check
returns-then-t-gt4096 c = rw (lt-leb _ _ c.if-t-order.false, lt-ltb _ _ c.if-t-gt4096.true)

pub returns : goal.returns
unfolding length_check
returns c = rw (lt-leb _ _ c.if-t-order.false, le-ltb _ _ c.if-t-gt4096.false)
