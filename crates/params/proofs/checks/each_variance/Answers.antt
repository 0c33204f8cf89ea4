-- `each_variance`: 16 at the first variance that is not usable, or none.
use Rattle.refusal.specs.declared.Refusal.TheVariants.{Variance}
use Rattle.number.specs.Tests.{holds}
use Rattle.params.specs.Checks.{variance_check}
use Rattle.params.proofs.checks.each_variance.Goals as goal

pub returns : goal.returns
unfolding variance_check holds
returns c = c.each_passes.ensures Variance (λ i v w e. e)
