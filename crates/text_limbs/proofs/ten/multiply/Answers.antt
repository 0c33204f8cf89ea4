use Rattle.text_limbs.proofs.Tens.{raised_step}
use Rattle.text_limbs.proofs.ten.multiply.Goals as goal

pub loop-preserved : goal.loop-preserved
loop-preserved c = raised_step _ _ _ _ c.loop.counter _ c.loop.invariant c.loop-test.true c.times.ensures c.times.new.n.small
