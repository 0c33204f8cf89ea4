-- `tidy::tidied`: where the checks pass, each count lies within its array.
use native.Mathlib.Omega.{arith}
use Rattle.params.specs.Built.{tidy}
use Rattle.params.proofs.Within.{within}
use Rattle.params.proofs.tidy.tidied.Goals as goal

pub first_places-requires : goal.first_places-requires
first_places-requires c = (omega arith, (within _ c.requires).transition)

pub first_places-requires-2 : goal.first_places-requires-2
first_places-requires-2 c = (omega arith, (within _ c.requires).means)

pub first_places-requires-3 : goal.first_places-requires-3
first_places-requires-3 c = (omega arith, (within _ c.requires).ar)

pub first_places-requires-4 : goal.first_places-requires-4
first_places-requires-4 c = (omega arith, (within _ c.requires).variances)

pub returns : goal.returns
unfolding tidy
returns c = cc
