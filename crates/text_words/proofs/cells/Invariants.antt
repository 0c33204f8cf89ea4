-- `text_words::cells` is safe: no byte ends more than one cell.
use Prim.Native.Nat.{suc, ◌≤◌}
use Rattle.text_words.proofs.cells.Given as goal

abbrev pub invariant-loop-c : goal.invariant-loop-c
invariant-loop-c l = l.count ≤ suc l.c-index
