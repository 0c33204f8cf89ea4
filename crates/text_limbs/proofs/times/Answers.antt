use native.Mathlib.Numerals.{add-one}
use Rattle.text_limbs.proofs.Multiply.{next}
use Rattle.text_limbs.proofs.times.Goals as goal

pub loop-x-preserved : goal.loop-x-preserved
loop-x-preserved c = rw (add-one c.loop-x.x-index) (next _ _ _ _ _ c.loop-x.invariant c.loop-x-test.true)
