-- `memory` meets its contract: work memory, then the table.
use native.Mathlib.Omega.{arith}
use Rattle.calls.proofs.memory.Goals as goal

pub overflow_mul-b : goal.overflow_mul-b
overflow_mul-b c = omega (arith, c.requires)
