-- The equations are solved with the ridge, or the incumbent stays.
use Rattle.std.proofs.Common.{rules}
use mathlib.Core.Path.{◌≡◌, ◌∙◌}
use Rattle.em_ridge.specs.Ridge.{updated_by}
use Rattle.em_ridge.proofs.Answers.{kept_is, solved_is}
use Rattle.em_ridge.proofs.solve_or_keep.Goals as goal

pub returns-then-not-is_usable : goal.returns-then-not-is_usable
returns-then-not-is_usable c = kept_is _ _ _ _ _ c.largest-scale.ensures c.is_usable.ensures c.if-not-is_usable.true

pub returns : goal.returns
returns c =
    let mapped : c.map_err.result ≡ updated_by c.solve.result c.args.which = search rules in
    mapped ∙ solved_is _ _ _ _ _ c.largest-scale.ensures c.is_usable.ensures c.if-not-is_usable.false c.add_ridge.ensures c.solve.ensures
