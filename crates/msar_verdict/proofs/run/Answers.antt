use mathlib.Core.Path.{ap, sym, ◌∙◌}
use native.Mathlib.Omega.{arith}
use lib.Ieee.{lt}
use Rattle.number.specs.Number.{half}
use Rattle.msar_verdict.specs.Verdict.{is_above}
use Rattle.msar_verdict.proofs.Runs.{run_start, run_more, run_found, run_all}
use Rattle.msar_verdict.proofs.run.Goals as goal

pub loop-count-init : goal.loop-count-init
loop-count-init c = (omega arith, run_start _ _ _ _)

pub returns-then-not-share : goal.returns-then-not-share
unfolding is_above
returns-then-not-share c = run_found _ _ _ _ _ c.loop-count-test.true c.loop-count.invariant.1 (ap (lt half) (sym c.share.ensures) ∙ c.if-not-share.true)

pub loop-count-preserved : goal.loop-count-preserved
unfolding is_above
loop-count-preserved c = (omega arith, run_more _ _ _ _ _ c.loop-count-test.true c.loop-count.invariant.1 (ap (lt half) (sym c.share.ensures) ∙ c.if-not-share.false))

pub returns : goal.returns
returns c = run_all _ _ _ _ _ (omega arith) c.loop-count.invariant.1
