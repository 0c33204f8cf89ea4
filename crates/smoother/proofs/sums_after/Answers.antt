use mathlib.Core.Path.{sym}
use native.Mathlib.Omega.{arith}
use Prim.Native.Nat.{◌+◌, ◌*◌, ◌<◌, ◌≤◌}
use native.Mathlib.Nat.{zero-mod, mod-lt}
use Rattle.number.proofs.Table.{fill_at_none, fill_more}
use Rattle.smoother.proofs.Common.{sum_of_label, sums_fit, successors_fit, positive, windows_few}
use Rattle.smoother.proofs.sums_after.Goals.{In-loop-c}
use Rattle.smoother.proofs.sums_after.Goals as goal

-- a sum's successors lie in the next row, and there are no more sums than places
fits : (c : In-loop-c) → c.loop-c.c * c.args.shared.stride + c.args.shared.sizes.k ≤ c.args.shared.sizes.windows
fits c = successors_fit c.args.shared.sizes c.args.shared.sharing _ c.loop-c-test.true

few : (c : In-loop-c) → c.loop-c.c < 256
few c = omega (arith, sums_fit c.args.shared.sizes c.args.shared.sharing, c.loop-c-test.true)

pub loop-c-init : goal.loop-c-init
loop-c-init c = (sym (zero-mod _), fill_at_none _ _ _)

pub overflow_mul-c : goal.overflow_mul-c
overflow_mul-c c = omega (arith, fits (goal.at.overflow_mul-c c).In-loop-c, windows_few c.args.shared.sizes)

pub sum_after-requires : goal.sum_after-requires
sum_after-requires c =
    let sizes = c.args.shared.sizes in
    let room = fits (goal.at.sum_after-requires c).In-loop-c in
    (rw c.loop-c.invariant.0 (mod-lt _ (positive sizes)), sizes.shape.high, omega (arith, room, c.requires), omega (arith, room, c.requires))

pub offset_bounds-sums-c : goal.offset_bounds-sums-c
offset_bounds-sums-c c = omega (arith, few (goal.at.offset_bounds-sums-c c).In-loop-c)

pub bounds-sums-c : goal.bounds-sums-c
bounds-sums-c c = few (goal.at.bounds-sums-c c).In-loop-c

pub loop-c-preserved : goal.loop-c-preserved
loop-c-preserved c =
    let shared = c.args.shared in
    let inv = c.loop-c.invariant in (
      c.next_label-s.ensures _ inv.0,
      fill_more _ _ _ inv.1 (sum_of_label shared.sizes.k shared.stride _ _ _ c.loop-c.c inv.0 c.sum_after.ensures) (omega (arith, few (goal.at.loop-c-preserved c).In-loop-c)),
    )
