use mathlib.Core.Path.{◌≡◌}
use native.Mathlib.Omega.{arith}
use Rattle.linsolve.proofs.Steps.{less_first, less_more, less_is}
use Rattle.linsolve.proofs.less_row.Goals as goal

pub loop-j-init : goal.loop-j-init
loop-j-init c = less_first _ _ _ c.args.b.now _ _

pub loop-j-preserved : goal.loop-j-preserved
loop-j-preserved c = less_more _ _ _ c.args.b.now _ _ _ c.requires.0 c.told-a c.requires.1 c.requires.2 (omega arith) c.loop-j-test.true c.loop-j.invariant

pub returns : goal.returns
returns c = let e : c.loop-j.j ≡ c.args.n = omega arith in less_is _ _ _ _ _ _ (rw e at c.loop-j.invariant)
