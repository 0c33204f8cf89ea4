-- The first prediction of a window, step by step.
use Prim.Native.Nat.{suc, ◌/◌, ◌^◌}
use mathlib.Core.Path.{◌≡◌}
use Rattle.window.specs.Windows.{labels}
use Rattle.prediction.specs.Prediction.{first_to}
use Rattle.prediction.proofs.first_of.Given as goal

abbrev pub invariant-loop : goal.invariant-loop
invariant-loop l =
    (l.rest ≡ l.fn.a / l.k ^ l.counter) × (l.acc ≡ first_to l.q l.shares (labels l.k (suc l.fn.sizes.order) l.fn.a) l.counter)
