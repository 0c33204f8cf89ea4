-- `eliminate_column`: it stops at a pivot too small, else the pivot is placed and the column cleared.
use Rattle.linsolve.proofs.Steps.{column_stops, column_goes}
use Rattle.linsolve.proofs.eliminate_column.Goals as goal

pub returns-then-p : goal.returns-then-p
returns-then-p c = column_stops _ _ _ _ c.pivot_of-p.ensures c.if-p.true

pub returns : goal.returns
returns c = column_goes _ _ _ _ c.pivot_of-p.ensures c.if-p.false c.place.ensures c.clear_below.ensures
