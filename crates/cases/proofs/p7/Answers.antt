-- `cases::p7`: P7: what the functions answer is the example's.
use mathlib.Core.Path.{◌∙◌}
use lib.Dec.{lit≤}
use Rattle.cases.proofs.Values.{both, is_same, p7_row, later}
use Rattle.cases.proofs.p7.Goals as goal

pub returns : goal.returns
returns c =
    let from = p7_row c.two-q.ensures c.shaped.ensures.powers.1 c.steps-steps.ensures c.later_row.ensures in
    both (is_same c.is.ensures (from 0 (lit≤ tt) ∙ later.at_0)) (is_same c.is-2.ensures (from 1 (lit≤ tt) ∙ later.at_1))
