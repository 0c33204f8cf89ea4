-- `text_limbs::times` meets its contract: each limb times m, and what the ones below carry.
use Rattle.text_limbs.proofs.Multiply.{Multiplied}
use Rattle.text_limbs.proofs.times.Given as goal

abbrev pub invariant-loop-x : goal.invariant-loop-x
invariant-loop-x l = Multiplied l.fn.n.limbs l.x-items l.m l.carry l.x-index
