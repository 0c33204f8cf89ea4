-- `run` meets its contract: refused by the start shares, or the answer over n rows, for which the tables are what they need.
use mathlib.Core.Path.{◌≡◌}
use native.Mathlib.Omega.{arith}
use borrow.Author.Rules.{rules}
use Rattle.std.specs.Prelude.{Ok}
use Rattle.window.proofs.Shape.{order_at_most_7}
use Rattle.filter.specs.Filter.{filter_answer}
use Rattle.filter.proofs.Start.{regimes_within, answer_of_rows}
use Rattle.filter.proofs.run.Goals.{In_ok-shares}
use Rattle.filter.proofs.run.Goals as goal

pub returns-in_err-shares-clause-answer : goal.returns-in_err-shares-clause-answer
unfolding filter_answer
returns-in_err-shares-clause-answer c = search rules

pub phis-requires : goal.phis-requires
phis-requires c =
    let s = c.args.sizes in
    let e = c.requires.sizes in
    (omega (arith, s.shape.low, e.0), omega (arith, s.shape.high, e.0), omega (arith, order_at_most_7 _ _ s.shape.low s.shape.few, e.1))

pub of-requires : goal.of-requires
of-requires c =
    let s = c.args.sizes in
    let e = c.requires.sizes in
    (omega (arith, s.shape.low, e.0), omega (arith, s.shape.high, e.0), omega (arith, s.windows_value, regimes_within s.k s.order (omega (arith, s.shape.low)), e.0), omega (arith, s.windows_value, s.shape.few))

pub returns-clause-answer : goal.returns-clause-answer
returns-clause-answer c =
    let start : c.args.start ≡ Ok c.in_ok-shares.shares = search rules in
    rw start (answer_of_rows _ c.args.q.now _ _ _ c.requires.rows.0 c.each_row.ensures.answer)
