-- The step: twice improved, counted, checked; or refused on the way.
use Prim.Native.Nat.{ℕ}
use mathlib.Core.Path.{◌≡◌, sym, ap, ◌∙◌}
use mathlib.Core.List.{List}
use native.Mathlib.Omega.{arith}
use borrow.Author.Rules.{rules}
use lib.Ieee.{Float}
use Rattle.rows.specs.Smoothed.{rows_in}
use Rattle.em_counts.specs.Counts.{new_transition}
use Rattle.em_counts.proofs.Dividing.{transition_is}
use Rattle.em_step.specs.Step.{improved}
use Rattle.em_step.proofs.Kept.{Alike, improved_alike, still_ready, rows_alike, ready_power, ready_places, ready_blocks}
use Rattle.em_step.proofs.Ways.{once_refused, twice_refused, check_refused, stepped}
use Rattle.em_step.proofs.step.Goals.{In_ok-improve, After-new_transition-next}
use Rattle.em_step.proofs.step.Goals as goal

-- what is found once stands over the same rows
alike : (c : In_ok-improve) → Alike c.improve.new.q c.args.q.now
alike c =
    improved_alike c.args.smoothed.now.y.now c.args.smoothed.now.rows (rows_in c.args.q.now c.args.smoothed.now.work.now) c.args.q.now (sym c.in_ok-improve.ensures)

same_rows : (c : In_ok-improve)
    → improved c.args.smoothed.now.y.now c.args.smoothed.now.rows (rows_in c.improve.new.q c.args.smoothed.now.work.now) c.improve.new.q ≡ improved c.args.smoothed.now.y.now c.args.smoothed.now.rows (rows_in c.args.q.now c.args.smoothed.now.work.now) c.improve.new.q
same_rows c =
    ap
    (λ (rows : ℕ → List Float). improved c.args.smoothed.now.y.now c.args.smoothed.now.rows rows c.improve.new.q)
    (rows_alike c.args.smoothed.now.work.now (alike c))

counted : (c : After-new_transition-next)
    → c.new_transition-next.result ≡ new_transition c.args.q.now c.args.smoothed.now.rows (rows_in c.args.q.now c.args.smoothed.now.work.now)
counted c =
    let s = c.args.smoothed.now in
    c.new_transition-next.ensures ∙ transition_is c.args.q.now (omega (arith, c.requires.labels, s.sizes.shape.low)) c.requires.lagged s.rows s.work.now (ready_power s c.requires)

pub returns-in_err-improve : goal.returns-in_err-improve
returns-in_err-improve c =
    let refused = once_refused _ _ _ c.args.q.now c.in_err-improve.ensures in
    search (rules, refused)

pub improve-requires-2 : goal.improve-requires-2
improve-requires-2 c = still_ready (alike (goal.at.improve-requires-2 c).In_ok-improve) c.requires

pub returns-in_err-improve-2 : goal.returns-in_err-improve-2
returns-in_err-improve-2 c =
    let refused = twice_refused _ _ _ c.args.q.now c.in_ok-improve.ensures (c.in_err-improve-2.ensures ∙ same_rows (goal.at.returns-in_err-improve-2 c).In_ok-improve) in
    search (rules, refused)

pub overflow_mul-blocks : goal.overflow_mul-blocks
overflow_mul-blocks c = omega (arith, ready_blocks c.args.smoothed.now c.requires)

pub new_transition-next-requires : goal.new_transition-next-requires
new_transition-next-requires c =
    let z = c.args.smoothed.now.sizes in
    (omega (arith, c.requires.labels, z.shape.high), omega (arith, c.requires.labels, z.shape.low), ready_places c.args.smoothed.now c.requires)

pub returns-in_err-check : goal.returns-in_err-check
returns-in_err-check c =
    let at = goal.at.returns-in_err-check c in
    let refused = check_refused _ _ _ c.args.q.now c.in_ok-improve.ensures (c.in_ok-improve-2.ensures ∙ same_rows at.In_ok-improve) (counted at.After-new_transition-next) c.in_err-check.ensures in
    search (rules, refused)

pub returns : goal.returns
returns c =
    let at = goal.at.returns c in
    stepped _ _ _ c.args.q.now c.in_ok-improve.ensures (c.in_ok-improve-2.ensures ∙ same_rows at.In_ok-improve) (counted at.After-new_transition-next) c.in_ok-check.ensures
