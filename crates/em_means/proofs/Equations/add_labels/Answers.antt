use native.Mathlib.Nat.{zero-mul}
use native.Mathlib.Omega.{arith}
use Rattle.number.proofs.Table.{fill_at_none, row_within}
use Rattle.em_means.proofs.Added.{cells_more, sides_more}
use Rattle.em_means.proofs.Equations.add_labels.Goals as goal

pub loop-r-init : goal.loop-r-init
loop-r-init c = (rw zero-mul (fill_at_none 0 _ _), fill_at_none 0 _ _)

pub loop-r-preserved : goal.loop-r-preserved
loop-r-preserved c =
    let a = c.args in
    let w = c.loop-r in
    let e = c.add_label.ensures in (
      cells_more a.row.now a.k a.gw w.r a.self.now.table w.invariant.0 e.table (omega (arith, row_within _ _ c.requires c.loop-r-test.true)),
      sides_more a.row.now a.k a.gw a.d w.r a.self.now.side w.invariant.1 e.side (omega (arith, c.requires, c.loop-r-test.true)),
    )
