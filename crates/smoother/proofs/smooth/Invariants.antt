-- `smooth` meets its contract: the loop goes back over the rows as Back.antt says.
use Rattle.smoother.proofs.Back.{Back}
use Rattle.smoother.proofs.smooth.Given as goal

abbrev pub invariant-loop-i : goal.invariant-loop-i
invariant-loop-i l = Back l.q l.n l.i l.initial.work l.work
