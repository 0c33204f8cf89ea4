-- `ten::multiply` meets its contract: each step takes nine from the exponent.
use Rattle.std.proofs.Common.{◌-◌, ◌*◌}
use Rattle.text_limbs.proofs.Tens.{Raised}
use Rattle.text_limbs.proofs.ten.multiply.Given as goal

abbrev pub invariant-loop : goal.invariant-loop
invariant-loop l = Raised l.initial.n.limbs l.n.limbs l.e (l.e - 9 * l.counter)
