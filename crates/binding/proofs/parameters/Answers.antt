-- `parameters` meets its contract: the parameter checks, then 20.
use Rattle.binding.specs.Binding.{params_check}
use Rattle.binding.proofs.parameters.Goals as goal

pub returns : goal.returns
unfolding params_check
returns c = rw (← c.check-own.ensures, ← c.shape-shape.ensures) c.first_of.ensures
