-- Readings less the means of the labels now, label by label.
use mathlib.Core.Path.{◌≡◌}
use Rattle.number.specs.Number.{◌⊖◌}
use Rattle.number.specs.Table.{◌!◌, fill_at}
use Rattle.em_variances.proofs.start.Given as goal

abbrev pub invariant-loop-s : goal.invariant-loop-s
invariant-loop-s l = l.row ≡ fill_at 0 (λ i. l.reading ⊖ l.means ! i) l.s l.initial.row
