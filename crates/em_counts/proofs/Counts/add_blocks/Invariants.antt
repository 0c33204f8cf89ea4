-- All blocks are counted, one after another.
use Prim.Native.Nat.{◌*◌, ◌%◌}
use mathlib.Core.Path.{◌≡◌}
use Rattle.em_counts.specs.Steps.{Counted}
use Rattle.em_counts.proofs.Counts.add_blocks.Given as goal

abbrev pub invariant-loop-c : goal.invariant-loop-c
invariant-loop-c l = (l.before ≡ l.c % l.k) × Counted l.k l.work (l.c * l.k) l.self.cells l.self.columns
