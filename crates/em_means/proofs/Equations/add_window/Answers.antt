-- A window is added to the equations, or skipped.
use native.Mathlib.Nat.{mul-le-mul}
use native.Mathlib.Omega.{arith}
use Rattle.em_means.proofs.Added.{window_skipped, window_side_skipped, window_added, window_side_added}
use Rattle.em_means.proofs.Equations.add_window.Goals as goal

pub returns-then-g-clause-table : goal.returns-then-g-clause-table
returns-then-g-clause-table c =
    let a = c.args in
    let few = a.sizes.shape.high in
    window_skipped _ a.sizes.k a.v a.g c.if-g.true a.self.now.table (omega (arith, mul-le-mul few few))

pub returns-then-g-clause-side : goal.returns-then-g-clause-side
returns-then-g-clause-side c =
    let a = c.args in
    window_side_skipped _ a.sizes.k a.v a.g c.if-g.true a.self.now.side a.d (omega (arith, a.sizes.shape.high))

pub returns-clause-table : goal.returns-clause-table
returns-clause-table c =
    let a = c.args in
    window_added _ a.sizes.k a.v a.g c.if-g.false a.self.now.table (rw c.sensitivities.ensures at c.add_labels.ensures.table)

pub returns-clause-side : goal.returns-clause-side
returns-clause-side c =
    let a = c.args in
    window_side_added _ a.sizes.k a.v a.g c.if-g.false a.self.now.side a.d (rw c.sensitivities.ensures at c.add_labels.ensures.side)
