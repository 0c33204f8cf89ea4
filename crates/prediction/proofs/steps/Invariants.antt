-- The steps into the windows, window by window.
use mathlib.Core.Path.{◌≡◌}
use lib.ListN.{replicate}
use Rattle.number.specs.Number.{zero⁺}
use Rattle.number.specs.Table.{fill_at}
use Rattle.prediction.specs.Steps.{step_at}
use Rattle.prediction.proofs.steps.Given as goal

abbrev pub invariant-loop-a : goal.invariant-loop-a
invariant-loop-a l = l.row ≡ fill_at 0 (step_at l.q) l.a (replicate 256 zero⁺)
