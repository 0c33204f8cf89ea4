-- The numbers by label, one after another.
use Prim.Native.Nat.{ℕ, ◌<◌}
use mathlib.Core.Path.{◌≡◌}
use lib.ListN.{replicate}
use lib.Ieee.{Float}
use Rattle.number.specs.Number.{zero⁺}
use Rattle.number.specs.Table.{◌!◌, fill_at}
use Rattle.density.proofs.by_label.Given as goal

abbrev pub invariant-loop-s : goal.invariant-loop-s
invariant-loop-s g l =
    (f : Float → Float) → ((s : ℕ) (y : Float) → s < l.k → goal.F-post g l.f (l.own ! s) y → y ≡ f (l.own ! s)) → l.row ≡ fill_at 0 (λ s. f (l.own ! s)) l.s (replicate 256 zero⁺)
