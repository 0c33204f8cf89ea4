use Prim.Native.Nat.{◌+◌}
use Rattle.std.proofs.lemmas.List.{take_rest}
use Rattle.smoother.proofs.Scaled.{row_done}
use Rattle.smoother.proofs.smooth_row.Goals as goal

pub returns : goal.returns
returns c =
    let a = c.args in
    let next = a.at + a.shared.sizes.windows in
    row_done a.shared.sharing a.shared.sizes.windows a.transition.now a.at a.ahead a.work.now a.sums.now (rw (take_rest a.work.now next, take_rest a.work.now a.ahead) at c.sums_after.ensures) c.scale_row.ensures
