use Prim.Native.Nat.{◌<◌, ◌≤◌}
use mathlib.Core.Path.{◌≡◌}
use native.Mathlib.Nat.{zero-mul}
use native.Mathlib.Omega.{arith}
use Rattle.em_coefficients.proofs.Sums.{summed_none, solved}
use Rattle.em_coefficients.proofs.new_ar.Goals as goal

pub loop-i-init : goal.loop-i-init
loop-i-init c = rw zero-mul (summed_none _ _ _ _ _ _)

pub returns : goal.returns
returns c =
    let q = c.args.q.now in
    let s = c.args.smoothed.now in
    let sizes = s.sizes in
    let positive : 0 < q.means_count = omega (arith, sizes.shape.low, c.requires.sizes) in
    let few : q.order ≤ 7 = omega (arith, sizes.few_lags, c.requires.sizes) in
    let all : c.loop-i.i ≡ s.rows = omega arith in
    solved q positive c.requires.blocks.0 few s.y.now s.work.now s.rows sizes.k sizes.order sizes.windows c.requires.sizes.0 c.requires.sizes.1 sizes.windows_value c.requires.blocks.1 c.variances-variances.ensures (rw all at c.loop-i.invariant) c.solve.ensures
