use Prim.Native.Nat.{◌<◌}
use native.Mathlib.Omega.{arith}
use Rattle.linsolve.proofs.Steps.{best_first, best_moves, best_stays}
use Rattle.linsolve.proofs.pivot_of.Goals.{then-magnitude-m, else-magnitude-m}
use Rattle.linsolve.proofs.pivot_of.Goals as goal

pub loop-r-init : goal.loop-r-init
loop-r-init c = best_first _ _ _ c.requires.1 c.magnitude_at-magnitude.ensures

pub loop-r-preserved : goal.loop-r-preserved
loop-r-preserved c =
    let past : c.args.c < c.loop-r.r = omega arith in
    let row = c.loop-r-test.true in
    let seen = c.magnitude_at-m.ensures in
    elim c.if-magnitude-m.branch [
      | then-magnitude-m w ↦ rw (w.row-is, w.magnitude-is) (best_moves _ _ _ _ past row c.loop-r.invariant seen w.if-magnitude-m.true)
      | else-magnitude-m w ↦ rw (w.row-is, w.magnitude-is) (best_stays _ _ _ _ past row c.loop-r.invariant seen w.if-magnitude-m.false)
    ]
