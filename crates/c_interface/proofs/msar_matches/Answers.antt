-- `msar_matches` says whether the records of its arrays are of one shape.
use Rattle.c_interface.proofs.msar_matches.Goals as goal

pub returns : goal.returns
returns c = cc
