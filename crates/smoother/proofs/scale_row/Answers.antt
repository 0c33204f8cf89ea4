use mathlib.Core.Path.{◌≡◌, refl, ◌∙◌}
use native.Mathlib.Omega.{arith}
use Prim.Native.Nat.{◌+◌, ◌*◌, ◌≤◌}
use native.Mathlib.Nat.{zero-mul}
use lib.ListN.{length}
use Rattle.number.proofs.Table.{fill_at_none, fill_at_long, row_before}
use Rattle.smoother.proofs.Scaled.{block_more}
use Rattle.smoother.proofs.Common.{sums_fit, all_windows}
use Rattle.smoother.proofs.scale_row.Goals.{In-loop-x}
use Rattle.smoother.proofs.scale_row.Goals as goal

-- the block lies in the row
block_in : (c : In-loop-x) → c.args.at + (c.loop-x.x * c.args.shared.count + c.args.shared.count) ≤ length c.args.work.now
block_in c = omega (arith, row_before c.args.shared.count _ _ c.loop-x-test.true, all_windows c.args.shared.sizes c.args.shared.sharing, c.requires)

pub loop-x-init : goal.loop-x-init
loop-x-init c = (refl, rw zero-mul (fill_at_none _ _ _))

pub overflow_mul-x : goal.overflow_mul-x
overflow_mul-x c = omega (arith, block_in (goal.at.overflow_mul-x c).In-loop-x)

pub overflow_add-at : goal.overflow_add-at
overflow_add-at c = omega (arith, block_in (goal.at.overflow_add-at c).In-loop-x)

pub scale_block-requires : goal.scale_block-requires
scale_block-requires c = (sums_fit c.args.shared.sizes c.args.shared.sharing, omega (arith, block_in (goal.at.scale_block-requires c).In-loop-x))

pub loop-x-preserved : goal.loop-x-preserved
loop-x-preserved c =
    let inv = c.loop-x.invariant in
    let room = block_in (goal.at.loop-x-preserved c).In-loop-x in
    (fill_at_long _ _ _ _ c.scale_block.ensures (omega (arith, room)) ∙ inv.0, block_more _ _ _ _ _ inv.1 c.scale_block.ensures room)

pub returns : goal.returns
returns c =
    let e : c.loop-x.x ≡ c.args.shared.blocks = omega arith in
    rw (e, all_windows c.args.shared.sizes c.args.shared.sharing) at c.loop-x.invariant.1
