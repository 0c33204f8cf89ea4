use Prim.Native.Nat.{◌-◌}
use mathlib.Core.Path.{◌≡◌}
use native.Mathlib.Omega.{arith}
use Rattle.linsolve.proofs.Steps.{back_first, back_more}
use Rattle.linsolve.proofs.back_substitute.Goals as goal

pub loop-r-init : goal.loop-r-init
loop-r-init c = back_first _ _

pub loop-r-preserved : goal.loop-r-preserved
loop-r-preserved c = back_more _ _ _ _ c.loop-r-test.true (omega arith) c.loop-r.invariant c.less_known.ensures c.cell_of.ensures

pub returns : goal.returns
returns c = let e : c.args.n - c.loop-r.r ≡ c.args.n = omega arith in rw e at c.loop-r.invariant
