use mathlib.Core.Path.{◌≡◌}
use native.Mathlib.Omega.{arith}
use borrow.Author.Rules.{rules}
use lib.ListN.{length}
use Rattle.number.proofs.Table.{fill_at_none, fill_at_past, fill_more}
use Rattle.em_variances.proofs.variances_of.Goals as goal

pub loop-b-init : goal.loop-b-init
loop-b-init c = fill_at_none 0 _ _

pub loop-b-preserved : goal.loop-b-preserved
loop-b-preserved c =
    let long : length c.args.old ≡ 16 = search rules in
    let was = fill_at_past 0 _ _ _ c.loop-b.invariant c.loop-b.b (omega arith) (omega arith) in
    fill_more _ _ _ c.loop-b.invariant (rw (← was) c.variance_of.ensures) (omega arith)

pub returns : goal.returns
returns c = let e : c.loop-b.b ≡ c.args.count = omega arith in rw e at c.loop-b.invariant
