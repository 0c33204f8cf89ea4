-- `by_digits`: after as many steps as are counted q is the root of twice as many first digits, cut, and rest what they are above its square.
use Rattle.root.proofs.Digits.{Step}
use Rattle.root.proofs.by_digits.Given as goal

abbrev pub invariant-loop : goal.invariant-loop
invariant-loop l = Step l.m l.q l.rest l.low l.counter
