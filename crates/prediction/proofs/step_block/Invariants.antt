-- The k windows that share a sum, each by its own step.
use Prim.Native.Nat.{◌+◌}
use mathlib.Core.Path.{◌≡◌}
use Rattle.number.specs.Number.{◌⊗◌}
use Rattle.number.specs.Table.{◌!◌, fill_at}
use Rattle.prediction.proofs.step_block.Given as goal

abbrev pub invariant-loop-s : goal.invariant-loop-s
invariant-loop-s l = l.row ≡ fill_at l.at (λ i. l.steps ! (l.at + i) ⊗ l.sum) l.s l.initial.row
