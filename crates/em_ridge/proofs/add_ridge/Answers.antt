use Prim.Native.Nat.{◌*◌, ◌≤◌}
use mathlib.Core.Path.{◌≡◌}
use native.Mathlib.Omega.{arith}
use lib.ListN.{length}
use Rattle.em_ridge.proofs.Diagonal.{ridge_none, ridge_more, ridge_all, square_within}
use Rattle.em_ridge.proofs.add_ridge.Goals.{Start}
use Rattle.em_ridge.proofs.add_ridge.Goals as goal

square : (c : Start) → c.args.n * c.args.n ≤ length c.args.a.now
square c = omega (arith, square_within _ c.requires.0, c.told-a)

pub loop-i-init : goal.loop-i-init
loop-i-init c = ridge_none _ _ _ (square (goal.at.loop-i-init c).Start)

pub loop-i-preserved : goal.loop-i-preserved
loop-i-preserved c = ridge_more _ _ _ _ c.loop-i-test.true (square (goal.at.loop-i-preserved c).Start) c.loop-i.invariant

pub returns : goal.returns
returns c = let e : c.loop-i.i ≡ c.args.n = omega arith in ridge_all _ _ _ c.requires.1 (rw e at c.loop-i.invariant)
