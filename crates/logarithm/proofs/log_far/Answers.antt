-- `log_far`: both ends of the range are one test in the code and two in the definition.
use Rattle.number.specs.Number.{◌<?◌}
use Rattle.logarithm.specs.Log.{log_far}
use Rattle.logarithm.proofs.Tests.{either, neither}
use Rattle.logarithm.proofs.log_far.Goals as goal

pub returns-then-m : goal.returns-then-m
unfolding log_far
returns-then-m c = let m = c.args.m in rw (either (m <? 0x6_147a) (0x6_b851 <? m) _ _ c.if-m.true) (cc)

pub returns : goal.returns
unfolding log_far
returns c = let m = c.args.m in rw (neither (m <? 0x6_147a) (0x6_b851 <? m) _ _ c.if-m.false) (cc)
