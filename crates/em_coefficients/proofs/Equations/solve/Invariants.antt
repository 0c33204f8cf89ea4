-- The blocks are solved in order, up to the first that is refused.
use mathlib.Core.Path.{◌≡◌}
use Rattle.refusal.specs.Checks.{Passed, check_of, each}
use Rattle.em_coefficients.specs.Steps.{block_from}
use Rattle.em_coefficients.proofs.Parts.{answers_to}
use Rattle.em_coefficients.proofs.Equations.solve.Given as goal

abbrev pub invariant-loop-b : goal.invariant-loop-b
invariant-loop-b l =
    let block = block_from l.order l.self.tables l.self.sides l.q.ar in
    record {
      passed : each l.b (λ i. check_of (block i)) ≡ Passed;
      answers : l.ar ≡ answers_to l.order block l.q.ar l.b;
    }
