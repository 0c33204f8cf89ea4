-- The variances by label, label by label.
use mathlib.Core.Path.{◌≡◌}
use lib.ListN.{replicate}
use Rattle.number.specs.Number.{zero⁺}
use Rattle.number.specs.Table.{◌!◌, fill_at}
use Rattle.params.specs.Parameters.{block_of}
use Rattle.density.proofs.variances.Given as goal

abbrev pub invariant-loop-s : goal.invariant-loop-s
invariant-loop-s l = l.row ≡ fill_at 0 (λ i. l.own ! block_of l.count i) l.s (replicate 16 zero⁺)
