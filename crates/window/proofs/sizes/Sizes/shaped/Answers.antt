use native.Mathlib.Nat.{pow-suc, pow-zero, one-mul}
use native.Mathlib.Numerals.{add-one}
use native.Mathlib.Omega.{arith}
use Rattle.window.proofs.Shape.{counted_small}
use Rattle.window.proofs.sizes.Sizes.shaped.Goals as goal

pub loop-init : goal.loop-init
loop-init c = rw (pow-suc, pow-zero, one-mul)

pub overflow_mul-windows : goal.overflow_mul-windows
overflow_mul-windows c = omega (arith, counted_small c.requires _ (omega arith) c.loop.invariant)

pub loop-preserved : goal.loop-preserved
loop-preserved c = rw (add-one, pow-suc, ← c.loop.invariant)
