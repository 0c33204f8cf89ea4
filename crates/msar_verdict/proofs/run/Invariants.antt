-- `run`: so far every row from the last back is above one half.
use Prim.Native.Nat.{◌≤◌}
use Rattle.msar_verdict.proofs.Runs.{SoFar}
use Rattle.msar_verdict.proofs.run.Given as goal

abbrev pub invariant-loop-count : goal.invariant-loop-count
invariant-loop-count l = (l.count ≤ l.n) × SoFar l.table l.k l.r l.n l.count
