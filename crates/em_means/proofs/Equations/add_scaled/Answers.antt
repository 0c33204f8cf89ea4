use mathlib.Core.Path.{refl}
use native.Mathlib.Omega.{arith}
use Rattle.number.proofs.Table.{fill_at_none}
use Rattle.em_means.proofs.Added.{scaled_more}
use Rattle.em_means.proofs.Equations.add_scaled.Goals as goal

pub loop-c-init : goal.loop-c-init
loop-c-init c = (fill_at_none _ _ _, refl)

pub loop-c-preserved : goal.loop-c-preserved
loop-c-preserved c =
    let a = c.args in
    (scaled_more a.row.now a.at a.f _ a.self.now.table c.loop-c.invariant.0 (omega (arith, c.requires.0, c.loop-c-test.true)), c.loop-c.invariant.1)
