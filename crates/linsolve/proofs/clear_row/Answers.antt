-- `clear_row`: a factor of zero leaves the row, any other takes its multiple off.
use Rattle.linsolve.proofs.Steps.{clear_yes, clear_no}
use Rattle.linsolve.proofs.clear_row.Goals as goal

pub returns-then-f : goal.returns-then-f
returns-then-f c = clear_yes _ _ _ _ _ c.cell_of.ensures c.cell_of-2.ensures c.if-f.true c.less_row.ensures

pub returns-else-f : goal.returns-else-f
returns-else-f c = clear_no _ _ _ _ _ c.cell_of.ensures c.cell_of-2.ensures c.if-f.false
