-- A row of the table, place by place.
use Prim.Native.Nat.{◌+◌}
use mathlib.Core.Path.{◌≡◌}
use Rattle.number.specs.Table.{◌!◌, fill_at}
use Rattle.number.specs.Number.{◌⊕◌, ◌⊗◌}
use Rattle.em_means.proofs.Equations.add_scaled.Given as goal

abbrev pub invariant-loop-c : goal.invariant-loop-c
invariant-loop-c l =
    let old = l.initial.self in
    (l.self.table ≡ fill_at l.at (λ c. old.table ! (l.at + c) ⊕ l.f ⊗ l.row ! c) l.c old.table) × (l.self.side ≡ old.side)
