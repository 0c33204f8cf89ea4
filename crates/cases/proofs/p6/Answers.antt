-- `cases::p6`: P6: what the functions answer is the example's.
use mathlib.Core.Path.{ap, ◌∙◌}
use Rattle.number.specs.Number.{one}
use Rattle.refusal.specs.Checks.{check_of}
use Rattle.stationary.specs.Stationary.{shares_of}
use Rattle.cases.specs.Cases.{fails_with}
use Rattle.cases.proofs.Values.{p6, p6_told}
use Rattle.cases.proofs.p6.Goals as goal

pub returns : goal.returns
returns c =
    c.failed_with.ensures ∙ ap (λ x. fails_with (check_of x) 21 0 one) (c.stationary_shares.ensures ∙ ap shares_of c.two.ensures ∙ p6)
    ∙ p6_told
