-- One block of a lag, window by window.
use Prim.Native.Nat.{◌%◌, ◌<◌}
use mathlib.Core.Path.{◌≡◌}
use Rattle.number.specs.Number.{◌⊕◌, ◌⊗◌}
use Rattle.number.specs.Table.{◌!◌, fill_at}
use Rattle.density.proofs.lag_block.Given as goal

abbrev pub invariant-loop-b : goal.invariant-loop-b
invariant-loop-b l =
    (l.s ≡ l.b % l.k) × (l.s < l.k) × (l.row ≡ fill_at l.at (λ b. l.initial.row ! b ⊕ l.phis ! (b % l.k) ⊗ l.d) l.b l.initial.row)
