-- `cases::p11`: P11: what the functions answer is the example's.
use mathlib.Core.Path.{sym, ap, ◌∙◌}
use Rattle.number.specs.Table.{◌!◌}
use Rattle.params.specs.Durations.{durations_of}
use Rattle.cases.proofs.Values.{both, is_same, not_refused, values, p11, infinity}
use Rattle.cases.proofs.p11.Goals as goal

pub returns : goal.returns
returns c =
    let s = ap values (sym c.in-Ok.is ∙ c.expected_durations.ensures ∙ ap durations_of c.two.ensures ∙ p11) in
    both (is_same c.is.ensures (ap (λ x. x ! 0) s)) (is_same c.is-2.ensures (ap (λ x. x ! 1) s ∙ sym (c.of_pattern.ensures ∙ infinity)))

pub returns-in_default : goal.returns-in_default
returns-in_default c = absurd (not_refused (sym c.in_default.is ∙ c.expected_durations.ensures ∙ ap durations_of c.two.ensures ∙ p11))
