-- `exp_part`: the definition, operation by operation.
use Rattle.exp.specs.Exp.{exp_part}
use Rattle.exp.proofs.exp_part.Goals as goal

pub returns : goal.returns
unfolding exp_part
returns c = cc
