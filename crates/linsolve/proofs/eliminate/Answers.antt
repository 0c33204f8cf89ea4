use Rattle.std.proofs.Common.{rules}
use Rattle.linsolve.proofs.Steps.{columns_first, columns_more, columns_stop}
use Rattle.linsolve.proofs.eliminate.Goals as goal

pub loop-c-init : goal.loop-c-init
loop-c-init c = columns_first _ _

pub loop-c-preserved : goal.loop-c-preserved
loop-c-preserved c = columns_more _ _ _ c.loop-c.invariant c.in_ok-eliminate_column.ensures

pub returns-in_err-eliminate_column : goal.returns-in_err-eliminate_column
returns-in_err-eliminate_column c =
    let stopped = columns_stop _ _ _ c.loop-c.invariant c.in_err-eliminate_column.ensures c.loop-c-test.true in
    search (rules, stopped)
