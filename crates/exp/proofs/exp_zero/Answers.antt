-- `exp_zero`: the definition, operation by operation.
use Rattle.exp.specs.Exp.{exp_zero}
use Rattle.exp.proofs.exp_zero.Goals as goal

pub returns : goal.returns
unfolding exp_zero
returns c = cc
