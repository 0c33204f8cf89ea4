-- `msar_windows` spells the number of windows of its spec.
use Rattle.c_interface.proofs.msar_windows.Goals as goal

pub returns : goal.returns
returns c = cc
