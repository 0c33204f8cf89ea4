-- `advance` meets its contract: what its three calls leave.
use native.Mathlib.Omega.{arith}
use Rattle.filter.proofs.Start.{counted, power_is}
use Rattle.filter.proofs.advance.Goals as goal

pub later_row-requires : goal.later_row-requires
later_row-requires c =
    let s = c.args.sizes in
    let e = c.requires.sizes in
    (omega (arith, s.shape.low, e.0), omega (arith, s.shape.high, e.0), omega (arith, counted c.args.q.now s e, s.windows_value, s.shape.few), power_is c.args.q.now s e)

pub returns : goal.returns
returns c = record { weights = c.divide.ensures; predicted = rw (counted c.args.q.now c.args.sizes c.requires.sizes) at c.later_row.ensures; work = c.keep.ensures }
