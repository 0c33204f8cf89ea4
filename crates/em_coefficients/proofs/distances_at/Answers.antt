use Prim.Native.Nat.{◌<◌}
use mathlib.Core.Path.{refl}
use native.Mathlib.Omega.{arith}
use Rattle.number.proofs.Table.{fill_at_none, fill_more}
use Rattle.em_coefficients.specs.Steps.{distance_by}
use Rattle.em_coefficients.proofs.Parts.{distances_fit}
use Rattle.em_coefficients.proofs.distances_at.Goals.{In-loop-e}
use Rattle.em_coefficients.proofs.distances_at.Goals as goal

pub loop-e-init : goal.loop-e-init
loop-e-init c = fill_at_none 0 _ _

inside : (c : In-loop-e) → c.loop-e.e < 128
inside c = let sizes = c.args.smoothed.now.sizes in omega (arith, c.loop-e-test.true, distances_fit sizes.shape.high sizes.few_lags)

pub bounds-distances-e : goal.bounds-distances-e
bounds-distances-e c = inside (goal.at.bounds-distances-e c).In-loop-e

pub loop-e-preserved : goal.loop-e-preserved
unfolding distance_by
loop-e-preserved c =
    let h = inside (goal.at.loop-e-preserved c).In-loop-e in
    fill_more _ _ _ c.loop-e.invariant refl (omega (arith, h))
