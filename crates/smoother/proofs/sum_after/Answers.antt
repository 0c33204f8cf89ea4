use mathlib.Core.Path.{◌≡◌, ◌∙◌}
use native.Mathlib.Omega.{arith}
use Rattle.number.proofs.Sums.{where_none, where_more, where_same}
use Rattle.smoother.specs.Steps.{sum_after, seen_at, term_at}
use Rattle.smoother.proofs.sum_after.Goals.{then-d, else-d}
use Rattle.smoother.proofs.sum_after.Goals as goal

pub loop-r-init : goal.loop-r-init
loop-r-init c = where_none _ _

pub loop-r-preserved : goal.loop-r-preserved
unfolding seen_at term_at
loop-r-preserved c =
    elim c.if-d.branch [
      | then-d w ↦ w.acc-is ∙ where_more _ _ c.loop-r.r c.loop-r.invariant w.if-d.true
      | else-d w ↦ w.acc-is ∙ where_same _ _ c.loop-r.r c.loop-r.invariant w.if-d.false
    ]

pub returns : goal.returns
unfolding sum_after
returns c = let e : c.loop-r.r ≡ c.args.k = omega arith in rw e at c.loop-r.invariant
