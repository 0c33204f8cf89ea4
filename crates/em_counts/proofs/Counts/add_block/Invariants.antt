-- A block of k places is counted, place by place.
use Prim.Native.Nat.{◌+◌, ◌*◌}
use Rattle.em_counts.specs.Steps.{Counted}
use Rattle.em_counts.proofs.Counts.add_block.Given as goal

abbrev pub invariant-loop-s : goal.invariant-loop-s
invariant-loop-s l = Counted l.k l.work (l.c * l.k + l.s) l.self.cells l.self.columns
