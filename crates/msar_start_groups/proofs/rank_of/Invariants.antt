-- `rank_of` is safe: the rank is at most the count of readings passed.
use Prim.Native.Nat.{◌≤◌}
use Rattle.msar_start_groups.proofs.rank_of.Given as goal

abbrev pub invariant-loop-u : goal.invariant-loop-u
invariant-loop-u l = l.rank ≤ l.u
