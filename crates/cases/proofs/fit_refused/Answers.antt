-- `cases::fit_refused`: P9: the fit's refusal is the example's.
use mathlib.Core.Path.{ap, ◌∙◌}
use lib.ListN.{replicate}
use Rattle.number.specs.Number.{zero⁺}
use Rattle.refusal.specs.Checks.{check_of}
use Rattle.params.specs.declared.MsarParams.{MsarParams}
use Rattle.fit.specs.Calls.{FitOutcome, fit_call}
use Rattle.cases.specs.Cases.{fails_with}
use Rattle.cases.proofs.Values.{spec, constant, p9, p9_told}
use Rattle.cases.proofs.fit_refused.Goals as goal

pub returns : goal.returns
returns c =
    c.failed_with.ensures
    ∙ ap (λ (x : FitOutcome). fails_with (check_of x.answer) 25 0 zero⁺)
    (c.fit.ensures ∙ ap (λ (q : MsarParams). fit_call spec constant q 100 _ (replicate 8 zero⁺) (replicate 2 zero⁺)) c.two-q.ensures)
    ∙ ap (λ x. fails_with (check_of x) 25 0 zero⁺) (p9 100 _)
    ∙ p9_told
