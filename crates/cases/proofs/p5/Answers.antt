-- `cases::p5`: P5: what the functions answer is the example's.
use mathlib.Core.Path.{sym, ap, ◌∙◌}
use lib.Dec.{lit≤}
use Rattle.stationary.specs.Stationary.{shares_of}
use Rattle.cases.proofs.Values.{both, is_same, not_refused, values, p5, p5_row, predicted}
use Rattle.cases.proofs.p5.Goals as goal

pub returns : goal.returns
returns c =
    let q = c.two-q.ensures in
    let s = ap values (sym c.in-Ok.is ∙ c.stationary_shares.ensures ∙ ap shares_of q ∙ p5) in
    let row = p5_row q s c.shaped.ensures.powers.1 c.first_row.ensures in
    both
    (both (both (is_same c.is.ensures (row 0 (lit≤ tt) ∙ predicted.at_0)) (is_same c.is-2.ensures (row 1 (lit≤ tt) ∙ predicted.at_1)))
    (is_same c.is-3.ensures (row 2 (lit≤ tt) ∙ predicted.at_2))) (is_same c.is-4.ensures (row 3 (lit≤ tt) ∙ predicted.at_3))

pub returns-in_default : goal.returns-in_default
returns-in_default c = absurd (not_refused (sym c.in_default.is ∙ c.stationary_shares.ensures ∙ ap shares_of c.two-q.ensures ∙ p5))
