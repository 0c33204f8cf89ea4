-- A row of a table, place by place.
use Prim.Native.Nat.{◌+◌}
use mathlib.Core.Path.{◌≡◌}
use Rattle.number.specs.Number.{◌⊕◌, ◌⊗◌}
use Rattle.number.specs.Table.{◌!◌, fill_at}
use Rattle.em_coefficients.proofs.add_products.Given as goal

abbrev pub invariant-loop-c : goal.invariant-loop-c
invariant-loop-c l = l.tables ≡ fill_at l.at (λ c. l.initial.tables ! (l.at + c) ⊕ l.f ⊗ l.x ! (c + 1)) l.c l.initial.tables
