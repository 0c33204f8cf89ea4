use mathlib.Core.Path.{◌≡◌}
use native.Mathlib.Omega.{arith}
use Prim.Native.Nat.{◌*◌}
use native.Mathlib.Nat.{mul-le-mul}
use Rattle.number.proofs.Table.{fill_at_none, fill_more}
use Rattle.stationary.specs.Stationary.{share_table}
use Rattle.stationary.proofs.table_of.Goals as goal

pub loop-e-init : goal.loop-e-init
loop-e-init c = (omega arith, fill_at_none 0 _ _, omega (arith, mul-le-mul c.requires.0 c.requires.0))

pub loop-e-preserved : goal.loop-e-preserved
loop-e-preserved c = (omega arith, fill_more _ _ _ c.loop-e.invariant.1 c.entry_at.ensures (omega arith), c.loop-e.invariant.2)

pub returns : goal.returns
unfolding share_table
returns c = let e : c.loop-e.e ≡ c.args.n * c.args.n = omega arith in rw e at c.loop-e.invariant.1
