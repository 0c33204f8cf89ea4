-- `cases::p4`: P4: what the functions answer is the example's.
use mathlib.Core.Path.{sym, ap, ◌∙◌}
use Rattle.number.specs.Table.{◌!◌}
use Rattle.stationary.specs.Stationary.{shares_of}
use Rattle.cases.proofs.Values.{both, is_same, not_refused, values, p4}
use Rattle.cases.proofs.p4.Goals as goal

pub returns : goal.returns
returns c =
    let s = ap values (sym c.in-Ok.is ∙ c.stationary_shares.ensures ∙ ap shares_of c.two.ensures ∙ p4) in
    both (is_same c.is.ensures (ap (λ x. x ! 0) s)) (is_same c.is-2.ensures (ap (λ x. x ! 1) s))

pub returns-in_default : goal.returns-in_default
returns-in_default c = absurd (not_refused (sym c.in_default.is ∙ c.stationary_shares.ensures ∙ ap shares_of c.two.ensures ∙ p4))
