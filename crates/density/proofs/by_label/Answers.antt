use mathlib.Core.Path.{◌≡◌}
use native.Mathlib.Omega.{arith}
use lib.ListN.{replicate}
use Rattle.number.specs.Number.{zero⁺}
use Rattle.number.proofs.Table.{fill_at_none, fill_more}
use Rattle.density.proofs.Rows.{again_filled}
use Rattle.density.proofs.by_label.Goals as goal

pub loop-s-init : goal.loop-s-init
loop-s-init g c = λ f h. fill_at_none 0 _ _

pub loop-s-preserved : goal.loop-s-preserved
loop-s-preserved g c = λ f h. fill_more _ _ _ (c.loop-s.invariant f h) (h c.loop-s.s c.f.result c.loop-s-test.true c.f.ensures) (omega arith)

pub returns : goal.returns
returns g c = λ f h.
    let e : c.loop-s.s ≡ c.args.k = omega arith in
    again_filled _ _ _ (replicate 256 zero⁺) (rw e at (c.loop-s.invariant f h)) c.repeat.ensures c.requires.sizes.0 c.requires.sizes.2
