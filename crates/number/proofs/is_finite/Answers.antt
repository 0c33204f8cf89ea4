use mathlib.Core.Path.{◌∙◌}
use Rattle.number.proofs.Cases.{finite_is}
use Rattle.number.proofs.is_finite.Goals as goal

pub returns : goal.returns
returns c = c.is_finite.ensures.value ∙ finite_is c.args.x
