-- `text_words::cell` meets its contract: each cell begins within the line or at its end.
use Prim.Native.Nat.{◌≤◌}
use lib.ListN.{length}
use Rattle.text_words.proofs.cell.Given as goal

abbrev pub invariant-loop : goal.invariant-loop
invariant-loop l = l.start ≤ length l.line
