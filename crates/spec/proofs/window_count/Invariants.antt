-- `window_count`: the loop holds a power of k up to 256, and stops at the first above.
use mathlib.Core.Path.{◌≡◌}
use Prim.Native.Nat.{suc, ◌^◌, ◌≤◌}
use Rattle.spec.proofs.window_count.Given as goal

abbrev pub invariant-loop : goal.invariant-loop
invariant-loop l = (l.counter ≤ l.order) × (l.m ≡ l.k ^ suc l.counter) × (l.m ≤ 256)
