-- `means`: 11 at the first mean that is not finite, or none.
use Rattle.refusal.specs.declared.Refusal.TheVariants.{Mean}
use Rattle.number.specs.Tests.{holds}
use Rattle.params.specs.Checks.{mean_check}
use Rattle.params.proofs.checks.means.Goals as goal

pub returns : goal.returns
unfolding mean_check holds
returns c = c.each_passes.ensures Mean (λ i v w e. e)
