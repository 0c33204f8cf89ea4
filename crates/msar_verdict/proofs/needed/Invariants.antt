-- `needed`: so far no number of readings is enough.
use Prim.Native.Nat.{◌≤◌}
use mathlib.Core.Path.{◌≡◌}
use Rattle.number.specs.Number.{◌⊗◌}
use Rattle.msar_verdict.specs.Verdict.{three}
use Rattle.msar_verdict.proofs.Enough.{SoFar}
use Rattle.msar_verdict.proofs.needed.Given as goal

abbrev pub invariant-loop-m : goal.invariant-loop-m
invariant-loop-m l = (l.m ≤ 30) × (l.three_durations ≡ three ⊗ l.duration) × SoFar l.duration l.m
