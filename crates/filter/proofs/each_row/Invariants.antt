-- `each_row` meets its contract: the loop keeps what Kept.antt says, row by row.
use Rattle.filter.proofs.Kept.{Kept}
use Rattle.filter.proofs.each_row.Given as goal

abbrev pub invariant-loop-i : goal.invariant-loop-i
invariant-loop-i l =
    Kept l.rule l.q l.y l.shares l.n l.sizes.windows l.kept l.initial.work l.i l.predicted l.loglik l.work
