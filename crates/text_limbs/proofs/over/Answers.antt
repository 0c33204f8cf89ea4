use Rattle.text_limbs.proofs.Divide.{first, next}
use Rattle.text_limbs.proofs.over.Goals as goal

pub loop-i-init : goal.loop-i-init
loop-i-init c = first _ _ c.args.n.now.small c.requires.0 c.requires.1

pub loop-i-preserved : goal.loop-i-preserved
loop-i-preserved c = next _ _ _ _ _ c.loop-i.invariant c.loop-i-test.true
