-- `label_sum` meets its contract: the sum upward over the windows with one label now.
use mathlib.Core.Path.{◌≡◌}
use Rattle.rows.specs.Steps.{label_sum}
use Rattle.rows.proofs.label_sum.Given as goal

abbrev pub invariant-loop-j : goal.invariant-loop-j
invariant-loop-j l = l.acc ≡ label_sum l.k l.j l.work l.i
