-- `run_filter` meets its contract: the run's answer, its table where it was not refused, and memory cleared.
use Prim.Native.Nat.{◌+◌, ◌*◌}
use native.Mathlib.Omega.{arith}
use Rattle.filter.proofs.Start.{windows_are, power_is}
use Rattle.calls.proofs.Runs.{run_answer_lem, values_are, all_cleared, windows_split, passed_says, refused_says, filtered_as_found, filtered_is}
use Rattle.calls.proofs.run_filter.Goals as goal

pub solved_shares-start-requires : goal.solved_shares-start-requires
solved_shares-start-requires c = omega (arith, c.args.sizes.shape.low, c.args.sizes.shape.high, c.requires.sizes.0)

pub tabulate-requires : goal.tabulate-requires
tabulate-requires c =
    let h = c.requires.rows in
    let q = c.args.q.now in
    let s = c.args.sizes in
    (omega (arith, s.shape.low, c.requires.sizes.0), windows_split q.means_count q.order (windows_are q s c.requires.sizes) (power_is q s c.requires.sizes), omega (arith, h.2, c.run-answer.ensures.same.0), h.3)

pub returns-in-Ok : goal.returns-in-Ok
returns-in-Ok c =
    let q = c.args.q.now in
    let s = c.args.sizes in
    let e = c.requires.sizes in
    let shares = c.solved_shares-start.ensures in
    let ran = c.run-answer.ensures in
    let answer = run_answer_lem _ q _ shares ran.answer in
    record {
      answer = answer;
      work = all_cleared (c.args.n * s.windows) (c.args.n * s.windows + 256) _ _ ran.same.1 c.clear.ensures (omega arith);
      table = filtered_is q _ _ _ (omega (arith, s.shape.low, e.0)) (windows_are q s e) (power_is q s e) _ _ _ _ (ran.rows (rw c.in-Ok.is)) c.requires.rows.0 (passed_says _ q _ answer c.in-Ok.is) (values_are q shares) (omega arith) _ c.tabulate.ensures;
    }

pub returns-in-Err : goal.returns-in-Err
returns-in-Err c =
    let ran = c.run-answer.ensures in
    let answer = run_answer_lem _ c.args.q.now _ c.solved_shares-start.ensures ran.answer in
    record { answer = answer; work = all_cleared (c.args.n * c.args.sizes.windows) (c.args.n * c.args.sizes.windows + 256) _ _ ran.same.1 c.clear-in-Err.ensures (omega arith); table = filtered_as_found _ c.args.q.now _ (refused_says _ c.args.q.now _ answer c.in-Err.is) _ }
