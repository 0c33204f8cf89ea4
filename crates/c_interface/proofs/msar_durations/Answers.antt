-- `msar_durations` lists the expected durations under the parameters that its arrays stand for.
use Rattle.c_interface.proofs.msar_durations.Goals as goal

pub returns : goal.returns
returns c = cc
