-- `shaped`: a factor k for the label now, and one for each turn.
use Prim.Native.Nat.{suc, ◌^◌}
use mathlib.Core.Path.{◌≡◌}
use Rattle.window.proofs.sizes.Sizes.shaped.Given as goal

abbrev pub invariant-loop : goal.invariant-loop
invariant-loop l = l.windows ≡ l.k ^ suc l.counter
