-- `cases::p10`: P10: what the functions answer is the example's.
use mathlib.Core.Path.{ap, ◌∙◌}
use Rattle.refusal.specs.Checks.{Check}
use Rattle.params.specs.Checks.{parameter_check}
use Rattle.cases.specs.Cases.{fails}
use Rattle.cases.proofs.Values.{p10}
use Rattle.cases.proofs.p10.Goals as goal

pub returns : goal.returns
returns c = c.failed.ensures ∙ ap (λ (x : Check). fails x 14 1) (c.check.ensures ∙ ap parameter_check c.two.ensures) ∙ p10
