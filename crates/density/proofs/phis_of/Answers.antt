use mathlib.Core.Path.{◌≡◌}
use native.Mathlib.Omega.{arith}
use Prim.Native.Nat.{◌*◌}
use native.Mathlib.Nat.{mul-le-mul}
use Rattle.number.proofs.Table.{fill_at_none, fill_more}
use Rattle.density.specs.Steps.{phis_from}
use Rattle.density.proofs.phis_of.Goals as goal

pub loop-e-init : goal.loop-e-init
loop-e-init c = fill_at_none 0 _ _

pub loop-e-preserved : goal.loop-e-preserved
loop-e-preserved c =
    fill_more _ _ _ c.loop-e.invariant (rw c.block_of.ensures) (omega (arith, c.loop-e-test.true, mul-le-mul c.requires.2 c.requires.1))

pub returns : goal.returns
unfolding phis_from
returns c = let e : c.loop-e.e ≡ c.args.order * c.args.k = omega arith in rw e at c.loop-e.invariant
