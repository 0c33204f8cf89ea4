-- `told::laid` puts the four parts one after the other, which is `laid_out`.
use Rattle.c_layout.specs.Layout.{laid_out}
use Rattle.c_layout.proofs.told.laid.Goals as goal

pub returns : goal.returns
unfolding laid_out
returns c = cc
