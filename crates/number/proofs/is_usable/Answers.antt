-- `is_usable`: finite and above zero, as the definition has it.
use Rattle.number.specs.Number.{usable}
use Rattle.number.proofs.is_usable.Goals as goal

pub returns : goal.returns
unfolding usable
returns c = rw c.is_finite.ensures
