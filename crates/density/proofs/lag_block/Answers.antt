use mathlib.Core.Path.{sym}
use native.Mathlib.Omega.{arith}
use native.Mathlib.Nat.{zero-mod, mod-lt}
use Rattle.number.proofs.Table.{fill_at_none, fill_at_more}
use Rattle.density.proofs.Rows.{block_kept, block_value}
use Rattle.density.proofs.lag_block.Goals as goal

pub loop-b-init : goal.loop-b-init
loop-b-init c = (sym (zero-mod _), omega arith, fill_at_none _ _ _)

pub loop-b-preserved : goal.loop-b-preserved
loop-b-preserved c =
    let inv = c.loop-b.invariant in
    let e = c.next_label-s.ensures _ inv.0 in
    let kept = block_kept _ _ _ _ _ inv.2 c.requires.4 c.loop-b-test.true (omega arith) in
    (e, rw e (mod-lt _ c.requires.0), fill_at_more _ _ _ _ inv.2 (block_value c.args.phis.now c.args.d kept inv.0) (omega arith))
