-- `given::params_of` makes the record of its four parts and six counts, which is `params_of`.
use Rattle.c_layout.specs.Layout.{params_of}
use Rattle.c_layout.proofs.given.params_of.Goals as goal

pub returns : goal.returns
unfolding params_of
returns c = cc
