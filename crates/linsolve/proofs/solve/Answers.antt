-- `solve`: too large, singular, or solved.
use Rattle.std.proofs.Common.{rules}
use Rattle.linsolve.proofs.Steps.{large_is, solved_is, unsolved_is}
use Rattle.linsolve.proofs.solve.Goals as goal

pub returns-then-n-gt16 : goal.returns-then-n-gt16
returns-then-n-gt16 c = large_is _ _ _ c.if-n-gt16.true

pub returns-in_err-eliminate : goal.returns-in_err-eliminate
returns-in_err-eliminate c =
    let unsolved = unsolved_is _ _ _ c.if-n-gt16.false c.in_err-eliminate.ensures in
    search (rules, unsolved)

pub returns : goal.returns
returns c = solved_is _ _ _ c.if-n-gt16.false c.in_ok-eliminate.ensures c.back_substitute.ensures
