-- `clear` meets its contract: +0 in the first places, and behind them what stood there.
use mathlib.Core.Path.{◌≡◌}
use native.Mathlib.Omega.{arith}
use lib.ListN.{replicate}
use lib.Seq.{length-take-le}
use Rattle.number.specs.Number.{zero⁺}
use Rattle.rows.proofs.Places.{fill_same}
use Rattle.rows.proofs.clear.Goals as goal

pub returns : goal.returns
returns c =
    let all : c.fill.new.self ≡ replicate c.args.n zero⁺ = rw (length-take-le c.args.n c.args.work.now (omega arith)) at (c.fill.ensures.after (λ y e. e)) in
    rw all (fill_same zero⁺ c.args.n c.args.work.now (omega arith))
