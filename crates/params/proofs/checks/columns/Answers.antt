use mathlib.Core.Path.{◌≡◌, sym, ◌∙◌}
use lib.Ieee.{lt}
use native.Mathlib.Omega.{arith}
use Rattle.refusal.proofs.Each.{each_none, each_more, each_found}
use Rattle.refusal.specs.declared.Refusal.TheVariants.{Column}
use Rattle.refusal.specs.Checks.{◌when◌}
use Rattle.params.specs.Checks.{slack, column_check}
use Rattle.params.proofs.checks.columns.Goals.{After-magnitude}
use Rattle.params.proofs.checks.columns.Goals as goal

pub loop-j-init : goal.loop-j-init
loop-j-init c = (omega arith, each_none _)

-- the check of the column that is at hand
check_is : (c : After-magnitude) → let at = c.before.before.before in column_check at.args.q at.loop-j.j ≡ (Column at.loop-j.j c.column_sum-sum.result when lt slack c.magnitude.result)
unfolding column_check
check_is c = rw (← c.column_sum-sum.ensures, ← c.magnitude.ensures)

pub returns-then-magnitude : goal.returns-then-magnitude
returns-then-magnitude c =
    let at = c in
    sym (each_found _ _ at.loop-j.invariant.1 _ c.loop-j-test.true (check_is c.before ∙ rw c.if-magnitude.true))

pub loop-j-preserved : goal.loop-j-preserved
loop-j-preserved c = let at = c in (omega arith, each_more _ _ at.loop-j.invariant.1 (check_is c.before ∙ rw c.if-magnitude.false))

pub returns : goal.returns
returns c = let e : c.loop-j.j ≡ c.args.q.means_count = omega arith in sym (rw e at c.loop-j.invariant.1)
