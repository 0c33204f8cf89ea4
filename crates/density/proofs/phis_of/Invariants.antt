-- The coefficients by lag and label, place by place.
use Prim.Native.Nat.{◌+◌, ◌*◌, ◌/◌, ◌%◌}
use mathlib.Core.Path.{◌≡◌}
use lib.ListN.{replicate}
use Rattle.number.specs.Number.{zero⁺}
use Rattle.number.specs.Table.{◌!◌, fill_at}
use Rattle.params.specs.Parameters.{block_of}
use Rattle.density.proofs.phis_of.Given as goal

abbrev pub invariant-loop-e : goal.invariant-loop-e
invariant-loop-e l = l.row ≡ fill_at 0 (λ x. l.ar ! (block_of l.blocks (x % l.k) * l.order + x / l.k)) l.e (replicate 112 zero⁺)
