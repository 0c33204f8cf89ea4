-- The variances anew, one after another.
use mathlib.Core.Path.{◌≡◌}
use Rattle.number.specs.Table.{◌!◌, fill_at}
use Rattle.em_variances.specs.Steps.{variance_of}
use Rattle.em_variances.proofs.variances_of.Given as goal

abbrev pub invariant-loop-b : goal.invariant-loop-b
invariant-loop-b l = l.old ≡ fill_at 0 (λ x. variance_of l.floor (l.sums.squares ! x) (l.sums.weights ! x) (l.initial.old ! x)) l.b l.initial.old
