-- `text_words::whole` meets its contract: the number has no more than nine digits.
use Prim.Native.Nat.{◌<◌}
use Rattle.text_words.proofs.whole.Given as goal

abbrev pub invariant-loop-c : goal.invariant-loop-c
invariant-loop-c l = l.n < 1000000000
