-- `of`: the counts are those of the shape.
use Prim.Native.Nat.{◌<◌}
use native.Mathlib.Omega.{arith}
use Rattle.window.proofs.Shape.{order_at_most_7, power_of}
use Rattle.window.proofs.sizes.Sizes.of.Goals as goal

pub invariant_of-result : goal.invariant_of-result
invariant_of-result c =
    let pos : 0 < c.args.k = omega (arith, c.requires.shape.low) in
    let few = order_at_most_7 _ _ c.requires.shape.low c.requires.shape.few in
    record { shape = c.requires.shape; few_lags = few; power_value = power_of c.args.order pos c.requires.windows_value; windows_value = c.requires.windows_value }
