-- `of_regime`: the parts are the definition's; the run has no more rows than the table.
use native.Mathlib.Omega.{arith}
use Rattle.msar_verdict.specs.Verdict.{finding_of}
use Rattle.msar_verdict.proofs.Runs.{run_within}
use Rattle.msar_verdict.proofs.of_regime.Goals as goal

pub overflow_sub-result : goal.overflow_sub-result
overflow_sub-result c =
    let a = c.args in
    omega (arith, run_within a.table.now a.k a.r a.n, c.run-count.ensures)

pub returns : goal.returns
unfolding finding_of
returns c = cc
