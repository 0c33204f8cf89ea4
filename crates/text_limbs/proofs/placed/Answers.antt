-- `text_limbs::placed` meets its contract: the digits stand in three limbs, and nothing wraps.
use Prim.Native.Nat.{◌/◌, ◌%◌}
use native.Mathlib.Omega.{arith}
use Rattle.text_limbs.proofs.Place.{Moved, moved, placed_limbs, placed_value}
use Rattle.text_limbs.proofs.placed.Goals.{After-two_to-p}
use Rattle.text_limbs.proofs.placed.Goals as goal

up : (c : After-two_to-p) → Moved c.args.v c.two_to-p.result
up c = moved c.args.v (c.args.place % 32) c.two_to-p.result (omega (arith, c.well_formed)) (omega arith) c.two_to-p.ensures

pub returns : goal.returns
returns c = placed_value c.args.v c.args.place c.two_to-p.result c.requires c.two_to-p.ensures

pub invariant_of-result : goal.invariant_of-result
invariant_of-result c = record { small = placed_limbs (c.args.place / 32) c.args.v c.two_to-p.result (up c) }
