-- `run_loglike` meets its contract: the run's answer, and memory cleared.
use Prim.Native.Nat.{◌+◌, ◌*◌}
use native.Mathlib.Omega.{arith}
use Rattle.calls.proofs.Runs.{run_answer_lem, all_cleared}
use Rattle.calls.proofs.run_loglike.Goals as goal

pub solved_shares-start-requires : goal.solved_shares-start-requires
solved_shares-start-requires c = omega (arith, c.args.sizes.shape.low, c.args.sizes.shape.high, c.requires.sizes.0)

pub run-answer-requires : goal.run-answer-requires
run-answer-requires c = let h = c.requires.rows in record { sizes = c.requires.sizes; rows = (h.0, h.1, omega (arith, h.2)) }

pub clear-requires : goal.clear-requires
clear-requires c = omega (arith, c.requires.rows.2, c.run-answer.ensures.same.0)

pub returns : goal.returns
returns c =
    let ran = c.run-answer.ensures in
    record { answer = run_answer_lem _ c.args.q.now _ c.solved_shares-start.ensures ran.answer; work = all_cleared (0 * c.args.sizes.windows) (c.args.n * c.args.sizes.windows + 256) _ _ ran.same.1 c.clear.ensures (omega arith) }
