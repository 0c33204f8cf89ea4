-- `cases::p12`: P12: what the functions answer is the example's.
use mathlib.Core.Path.{ap, ◌∙◌}
use borrow.Author.Tests.{eq-eqb}
use Rattle.number.specs.Number.{pattern_of}
use Rattle.cases.proofs.Values.{both, is_same, p12_four, p12_two}
use Rattle.cases.proofs.p12.Goals as goal

pub returns : goal.returns
returns c = both (is_same c.is.ensures (c.root.ensures.0 ∙ p12_four)) (eq-eqb _ _ (c.pattern.ensures ∙ ap pattern_of c.root-2.ensures.0 ∙ p12_two))
