-- A label of a window is added, or skipped.
use mathlib.Core.Path.{◌∙◌}
use native.Mathlib.Omega.{arith}
use Rattle.number.proofs.Table.{row_within}
use Rattle.em_means.proofs.Added.{label_skipped, label_added, side_skipped, side_added_lem}
use Rattle.em_means.proofs.Equations.add_label.Goals as goal

pub returns-then-x-clause-table : goal.returns-then-x-clause-table
returns-then-x-clause-table c =
    let a = c.args in
    label_skipped a.row.now a.k a.gw a.r c.if-x.true a.self.now.table (omega (arith, row_within _ _ c.requires.1 c.requires.0))

pub returns-then-x-clause-side : goal.returns-then-x-clause-side
returns-then-x-clause-side c =
    let a = c.args in
    side_skipped a.row.now a.k a.gw a.r a.d a.self.now.side c.if-x.true

pub returns-clause-table : goal.returns-clause-table
returns-clause-table c =
    let a = c.args in
    label_added a.row.now a.k a.gw a.r c.if-x.false a.self.now.table c.add_scaled.ensures.table

pub returns-clause-side : goal.returns-clause-side
returns-clause-side c =
    let a = c.args in
    c.add_scaled.ensures.side ∙ side_added_lem a.row.now a.k a.gw a.r a.d a.self.now.side c.if-x.false
