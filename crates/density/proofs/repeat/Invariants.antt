-- The first k places stand again and again, place by place.
use Prim.Native.Nat.{◌%◌}
use mathlib.Core.Path.{◌≡◌}
use Rattle.number.specs.Table.{◌!◌, fill_at}
use Rattle.density.proofs.repeat.Given as goal

abbrev pub invariant-loop-a : goal.invariant-loop-a
invariant-loop-a l = l.row ≡ fill_at 0 (λ a. l.initial.row ! (a % l.k)) l.a l.initial.row
