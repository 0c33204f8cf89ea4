-- `side_at` meets its contract: one in the last row, else +0.
use Rattle.stationary.proofs.Entries.{last_side, other_side}
use Rattle.stationary.proofs.side_at.Goals as goal

pub returns-then-i-n : goal.returns-then-i-n
returns-then-i-n c = last_side c.args.n c.args.i c.if-i-n.true

pub returns : goal.returns
returns c = other_side c.args.n c.args.i c.if-i-n.false
