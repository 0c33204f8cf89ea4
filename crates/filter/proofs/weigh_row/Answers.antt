-- `weigh_row` meets its contract: the weights of a row by the tables, and their sum.
use mathlib.Core.Path.{◌≡◌, ap}
use Prim.Native.Nat.{◌+◌}
use native.Mathlib.Omega.{arith}
use Rattle.window.specs.declared.Time.{Time}
use Rattle.window.proofs.Shape.{order_at_most_7}
use Rattle.filter.proofs.Weights.{weighed}
use Rattle.filter.proofs.weigh_row.Goals.{After-time_of-t}
use Rattle.filter.proofs.weigh_row.Goals as goal

-- the reading's time
at-time : (c : After-time_of-t) → c.time_of-t.result.0 ≡ c.args.sizes.order + c.args.row.0
at-time c = ap (λ (t : Time). t.0) c.time_of-t.ensures

pub time_of-t-requires : goal.time_of-t-requires
time_of-t-requires c = (omega (arith, c.requires.row), order_at_most_7 _ _ c.args.sizes.shape.low c.args.sizes.shape.few)

pub means_row-requires : goal.means_row-requires
means_row-requires c = let t = at-time (goal.at.means_row-requires c).After-time_of-t in (omega (arith, t), omega (arith, t, c.requires.row))

pub returns : goal.returns
returns c =
    let scales = c.requires.scales in
    weighed c.args.q.now _ _ _ _ _ _ _ _ _ _ scales (omega (arith, c.args.sizes.shape.low)) c.args.sizes.windows_value _ _ _ _ _ _ c.time_of-t.ensures (rw c.args.sizes.windows_value at (c.means_row.ensures c.args.q.now scales.parts)) c.weigh.ensures.weights c.weigh.ensures.total
