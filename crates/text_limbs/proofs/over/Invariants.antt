-- `text_limbs::over` meets its contract: long division from the highest limb down.
use Rattle.text_limbs.proofs.Divide.{Divided}
use Rattle.text_limbs.proofs.over.Given as goal

abbrev pub invariant-loop-i : goal.invariant-loop-i
invariant-loop-i l = Divided l.initial.n.limbs l.n.limbs l.m l.rest l.i
