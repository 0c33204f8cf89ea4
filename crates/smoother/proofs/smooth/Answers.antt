use mathlib.Core.Path.{◌≡◌, ap}
use native.Mathlib.Omega.{arith}
use Rattle.window.specs.declared.Sizes.{Sizes}
use Rattle.smoother.proofs.Back.{back_first, back_step, within}
use Rattle.smoother.proofs.smooth.Goals as goal

pub loop-i-init : goal.loop-i-init
loop-i-init c = back_first _ _ (omega arith) _

pub smooth_row-requires : goal.smooth_row-requires
smooth_row-requires c =
    let m = c.args.sizes.windows in
    let same : c.of-shared.result.sizes.windows ≡ m = ap (λ (s : Sizes). s.windows) c.of-shared.ensures in
    let room = within m c.loop-i.i c.args.n c.loop-i-test.true (omega arith) in
    (omega (arith, same, room, c.requires.rows, c.loop-i.invariant.long), omega (arith, same, room, c.requires.rows, c.loop-i.invariant.long))

pub loop-i-preserved : goal.loop-i-preserved
loop-i-preserved c =
    let fits = c.requires.sizes_value in
    let shared = rw c.of-shared.ensures at c.of-shared.result.sharing in
    back_step c.args.q.now c.args.n c.args.sizes fits.0 fits.1 shared c.loop-i.i c.loop-i-test.true (omega arith) c.requires.rows.1 c.loop-i.invariant (rw c.of-shared.ensures at c.smooth_row.ensures)
