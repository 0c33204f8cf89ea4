-- `msar_check` spells the check of the parameters that its arrays stand for.
use Rattle.c_interface.proofs.msar_check.Goals as goal

pub returns : goal.returns
returns c = cc
