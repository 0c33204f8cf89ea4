use mathlib.Core.Path.{◌∙◌}
use Rattle.number.proofs.Cases.{magnitude_is}
use Rattle.number.proofs.magnitude.Goals as goal

pub returns : goal.returns
returns c = c.abs.ensures.value ∙ magnitude_is c.args.x
