-- `run_smooth` meets its contract: the run's answer, both tables where it was not refused, and memory cleared.
use Prim.Native.Nat.{◌*◌, ◌<◌}
use mathlib.Core.Path.{◌∙◌}
use native.Mathlib.Omega.{arith}
use Rattle.params.specs.Parameters.{k}
use Rattle.filter.proofs.Start.{windows_are, power_is}
use Rattle.calls.proofs.Runs.{run_answer_lem, values_are, drop_more, all_cleared, windows_split, passed_says, refused_says, filtered_as_found, smoothed_as_found, filtered_is, smoothed_is}
use Rattle.calls.proofs.run_smooth.Goals as goal

pub solved_shares-start-requires : goal.solved_shares-start-requires
solved_shares-start-requires c = omega (arith, c.args.sizes.shape.low, c.args.sizes.shape.high, c.requires.sizes.0)

-- both tables are long enough: so that only the values tell which is written first
pub tabulate-requires : goal.tabulate-requires
tabulate-requires c =
    let h = c.requires.rows in
    let q = c.args.q.now in
    let s = c.args.sizes in
    (omega (arith, s.shape.low, c.requires.sizes.0), windows_split q.means_count q.order (windows_are q s c.requires.sizes) (power_is q s c.requires.sizes), omega (arith, h.2, c.run-answer.ensures.same.0), omega (arith, h.3, h.4))

pub smooth_rows-requires : goal.smooth_rows-requires
smooth_rows-requires c =
    let h = c.requires.rows in
    record { sizes = c.requires.sizes; rows = (h.5, omega (arith, h.2, c.run-answer.ensures.same.0), omega (arith, h.3, h.4)) }

pub clear-requires : goal.clear-requires
clear-requires c =
    omega (arith, c.requires.rows.2, c.run-answer.ensures.same.0, c.smooth_rows.ensures.same.0)

pub returns-in-Ok : goal.returns-in-Ok
returns-in-Ok c =
    let a = c.args in
    let q = a.q.now in
    let m = a.sizes.windows in
    let e = c.requires.sizes in
    let shares = c.solved_shares-start.ensures in
    let ran = c.run-answer.ensures in
    let answer = run_answer_lem _ q _ shares ran.answer in
    let pos : 0 < k q = omega (arith, a.sizes.shape.low, e.0) in
    let held = ran.rows (rw c.in-Ok.is) in
    let values = values_are q shares in
    let passed = passed_says _ q _ answer c.in-Ok.is in
    record {
      answer = answer;
      work = all_cleared (2 * a.n * m) (2 * (a.n * m)) _ _ (drop_more (a.n * m) (2 * a.n * m) _ _ (omega arith) c.smooth_rows.ensures.same.1 ∙ ran.same.1) c.clear.ensures (omega arith);
      filtered = filtered_is q _ _ _ pos (windows_are q a.sizes e) (power_is q a.sizes e) _ _ _ _ held c.requires.rows.0 passed values (omega arith) _ c.tabulate.ensures;
      smoothed = smoothed_is q _ _ _ pos (windows_are q a.sizes e) (power_is q a.sizes e) _ _ _ _ held c.requires.rows.0 passed values _ (c.smooth_rows.ensures.table _ _ _ held);
    }

pub returns-in-Err : goal.returns-in-Err
returns-in-Err c =
    let q = c.args.q.now in
    let m = c.args.sizes.windows in
    let ran = c.run-answer.ensures in
    let answer = run_answer_lem _ q _ c.solved_shares-start.ensures ran.answer in
    let refused = refused_says _ q _ answer c.in-Err.is in
    record { answer = answer; work = all_cleared (2 * c.args.n * m) (2 * (c.args.n * m)) _ _ ran.same.1 c.clear-in-Err.ensures (omega arith); filtered = filtered_as_found _ q _ refused _; smoothed = smoothed_as_found _ q _ refused _ }
