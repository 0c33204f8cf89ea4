-- `msar_shares` lists the stationary shares of the parameters that its arrays stand for.
use Rattle.c_interface.proofs.msar_shares.Goals as goal

pub returns : goal.returns
returns c = cc
