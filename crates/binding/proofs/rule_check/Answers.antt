-- `rule_check` meets its contract: its test is the definition's.
use Rattle.binding.specs.Binding.{rule_check}
use Rattle.binding.proofs.rule_check.Goals as goal

pub returns-then-number : goal.returns-then-number
unfolding rule_check
returns-then-number c = rw c.if-number.true

pub returns : goal.returns
unfolding rule_check
returns c = rw c.if-number.false
