use mathlib.Core.Path.{◌≡◌, ◌∙◌}
use native.Mathlib.Nat.{zero-mul}
use native.Mathlib.Omega.{arith}
use Rattle.em_means.proofs.Walk.{summed_none, means_of}
use Rattle.em_means.proofs.new_means.Goals as goal

pub loop-i-init : goal.loop-i-init
loop-i-init c = rw zero-mul (summed_none _ _ _)

pub returns : goal.returns
returns c =
    let all : c.loop-i.i ≡ c.args.smoothed.now.rows = omega arith in
    c.solve_or_keep.ensures ∙ means_of c.args.q.now _ _ c.requires.0 c.requires.1 c.phis-phis.ensures c.variances-variances.ensures (rw all at c.loop-i.invariant)
