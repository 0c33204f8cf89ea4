-- `text_model_line::numbers` meets its contract: each word ends within the line.
use Prim.Native.Nat.{◌≤◌}
use lib.ListN.{length}
use Rattle.text_model_line.proofs.numbers.Given as goal

abbrev pub invariant-loop-count : goal.invariant-loop-count
invariant-loop-count l = l.at ≤ length l.line
