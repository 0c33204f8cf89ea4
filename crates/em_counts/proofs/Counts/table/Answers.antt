use mathlib.Core.Path.{sym}
use native.Mathlib.Nat.{zero-mod}
use native.Mathlib.Omega.{arith}
use Rattle.em_counts.proofs.Counting.{square_within}
use Rattle.number.proofs.Table.{fill_at_none, fill_more}
use Rattle.em_counts.proofs.Counts.table.Goals as goal

pub loop-e-init : goal.loop-e-init
loop-e-init c = (sym (zero-mod _), fill_at_none _ _ _)

pub loop-e-preserved : goal.loop-e-preserved
loop-e-preserved c =
    let w = c.loop-e.invariant in
    let inside = square_within _ c.requires.0 in
    (c.next_label-j.ensures _ w.0, fill_more _ _ _ w.1 (c.divided.ensures _ w.0) (omega (arith, inside, c.loop-e-test.true)))
