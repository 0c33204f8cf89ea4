use mathlib.Core.Path.{◌≡◌, ap, ◌∙◌}
use native.Mathlib.Nat.{zero-mul}
use native.Mathlib.Omega.{arith}
use Rattle.em_variances.specs.Steps.{turned}
use Rattle.em_variances.proofs.Sums.{summed_none, variances_by_lem}
use Rattle.em_variances.proofs.new_variances.Goals as goal

pub loop-i-init : goal.loop-i-init
loop-i-init c = rw zero-mul (summed_none _ _ _ _)

pub returns : goal.returns
returns c =
    let s = c.args.smoothed.now in
    let all : c.loop-i.i ≡ s.rows = omega arith in
    let phis = c.turn.ensures ∙ ap turned c.phis-phis.ensures in
    variances_by_lem c.args.q.now s.y.now c.args.floor s.rows s.work.now s.sizes.k s.sizes.order s.sizes.windows c.requires.sizes.0 c.requires.sizes.1 s.sizes.windows_value phis c.requires.count (rw all at c.loop-i.invariant) c.variances_of.ensures
