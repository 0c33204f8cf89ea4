-- `check_shares` meets its contract: 22 at the first share that is not finite or too far below zero.
use mathlib.Core.Path.{◌≡◌}
use Prim.Native.Nat.{◌≤◌}
use Rattle.refusal.specs.Checks.{Passed, each}
use Rattle.stationary.specs.Stationary.{share_check}
use Rattle.stationary.proofs.check_shares.Given as goal

abbrev pub invariant-loop-i : goal.invariant-loop-i
invariant-loop-i l = (l.i ≤ l.n) × (each l.i (share_check l.x) ≡ Passed)
