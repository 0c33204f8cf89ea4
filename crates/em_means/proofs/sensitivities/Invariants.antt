-- The sensitivities of a window, lag by lag.
use Prim.Native.Nat.{suc, ◌/◌, ◌^◌}
use mathlib.Core.Path.{◌≡◌}
use Rattle.em_means.specs.Steps.{sensitivities_of}
use Rattle.em_means.proofs.sensitivities.Given as goal

abbrev pub invariant-loop-l : goal.invariant-loop-l
invariant-loop-l l = (l.rest ≡ l.a / l.sizes.k ^ suc l.l) × (l.row ≡ sensitivities_of l.sizes.k l.l l.phis l.a)
