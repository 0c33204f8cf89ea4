-- `judge` meets its contract: the run's refusal, or what the stop rule says of its log-likelihood.
use Prim.Native.Nat.{◌*◌}
use mathlib.Core.Path.{◌≡◌, ap}
use native.Mathlib.Omega.{arith}
use lib.ListN.{drop}
use Rattle.refusal.specs.Checks.{check_of}
use Rattle.calls.proofs.Runs.{run_answer_lem, values_are, drop_more}
use Rattle.fit.proofs.OnePass.{never, held_at, run_refused, run_passed}
use Rattle.fit.proofs.judge.Goals.{After-run}
use Rattle.fit.proofs.judge.Goals as goal

pub solved_shares-start-requires : goal.solved_shares-start-requires
solved_shares-start-requires c = omega (arith, c.args.sizes.shape.low, c.args.sizes.shape.high, c.requires.sizes.0)

-- what lies behind both tables of rows
rest : (c : After-run) → drop (2 * (c.args.n * c.args.sizes.windows)) c.run.new.work ≡ drop (2 * (c.args.n * c.args.sizes.windows)) c.args.work.now
rest c = let a = c.args in drop_more (2 * a.n * a.sizes.windows) (2 * (a.n * a.sizes.windows)) _ _ (omega arith) c.run.ensures.same.1

pub returns-in-Err : goal.returns-in-Err
returns-in-Err c =
    let q = c.args.q.now in
    record { verdict = run_refused _ _ _ q _ (run_answer_lem _ q _ c.solved_shares-start.ensures c.run.ensures.answer) c.in-Err.is; rest = (c.run.ensures.same.0, rest (goal.at.returns-in-Err c).After-run); rows = λ e. never _ e }

pub returns-in-Ok : goal.returns-in-Ok
returns-in-Ok c =
    let q = c.args.q.now in
    let shares = c.solved_shares-start.ensures in
    record { verdict = run_passed _ _ _ q _ (run_answer_lem _ q _ shares c.run.ensures.answer) c.in-Ok.is c.verdict_of.ensures; rest = (c.run.ensures.same.0, rest (goal.at.returns-in-Ok c).After-run); rows = λ e. held_at (values_are q shares) (c.run.ensures.rows (ap check_of c.in-Ok.is)) }
