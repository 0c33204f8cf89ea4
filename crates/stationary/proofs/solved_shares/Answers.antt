-- `solved_shares` meets its contract: by what the solver answers, and then by the shares' own check.
use Rattle.std.specs.Prelude.{Err}
use mathlib.Core.Path.{◌≡◌, ◌∙◌}
use borrow.Author.Rules.{rules}
use Rattle.stationary.proofs.Answers.{named, was_unsolved, was_solved}
use Rattle.stationary.proofs.solved_shares.Goals as goal

pub returns-in_err-x : goal.returns-in_err-x
returns-in_err-x c =
    let mapped : c.map_err.result ≡ named c.solve.result = search rules in
    let given : c.from_residual.result ≡ Err c.in_err-x.field-0.0 = search rules in
    given ∙ was_unsolved _ _ _ _ c.table_of-a.ensures c.sides_of-b.ensures c.solve.ensures mapped (search rules)

pub returns-in_err-check_shares : goal.returns-in_err-check_shares
returns-in_err-check_shares c =
    let mapped : c.map_err.result ≡ named c.solve.result = search rules in
    rw (← was_solved _ _ _ _ c.table_of-a.ensures c.sides_of-b.ensures c.solve.ensures mapped {x = c.in_ok-x.x} (search rules)) (search rules)

pub returns : goal.returns
returns c =
    let mapped : c.map_err.result ≡ named c.solve.result = search rules in
    rw (← was_solved _ _ _ _ c.table_of-a.ensures c.sides_of-b.ensures c.solve.ensures mapped {x = c.in_ok-x.x} (search rules)) (search rules)
