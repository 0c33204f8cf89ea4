-- `coefficients`: 15 at the first coefficient that is not finite, or none.
use Rattle.refusal.specs.declared.Refusal.TheVariants.{Ar}
use Rattle.number.specs.Tests.{holds}
use Rattle.params.specs.Checks.{ar_check}
use Rattle.params.proofs.checks.coefficients.Goals as goal

pub returns : goal.returns
unfolding ar_check holds
returns c = c.each_passes.ensures Ar (λ i v w e. e)
