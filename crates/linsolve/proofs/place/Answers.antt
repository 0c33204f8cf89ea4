-- `place`: rows exchanged, or the pivot's row stands there already.
use Rattle.linsolve.proofs.Steps.{placed_swap, placed_same}
use Rattle.linsolve.proofs.place.Goals as goal

pub returns-then-i-c : goal.returns-then-i-c
returns-then-i-c c = placed_swap _ _ _ _ _ c.requires.3 c.if-i-c.true c.swap_rows.ensures

pub returns-else-i-c : goal.returns-else-i-c
returns-else-i-c c = placed_same _ _ _ _ _ c.requires.3 c.if-i-c.false
