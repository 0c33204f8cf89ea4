-- `entries`: 13 at the first entry that is no probability, or none.
use Rattle.refusal.specs.declared.Refusal.TheVariants.{Transition}
use Rattle.number.specs.Tests.{holds}
use Rattle.params.specs.Checks.{is_probability, entry_check}
use Rattle.params.proofs.checks.entries.Goals as goal

pub returns : goal.returns
unfolding entry_check is_probability holds
returns c = c.each_passes.ensures Transition (λ i v w e. e)
