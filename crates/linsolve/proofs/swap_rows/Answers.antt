-- `swap_rows`: the two rows lie apart and within the table.
use Prim.Native.Nat.{◌<◌}
use native.Mathlib.Omega.{arith}
use Rattle.number.proofs.Table.{row_within, row_before}
use Rattle.linsolve.proofs.Parts.{parts_exchanged}
use Rattle.linsolve.proofs.Steps.{swap_is}
use Rattle.linsolve.proofs.swap_rows.Goals as goal

pub returns : goal.returns
returns c =
    let within = row_within _ _ c.requires.0 c.requires.2 in
    let cut = c.split_at_mut-above.ensures in
    let swapped = c.swap_with_slice.ensures in
    let upper : c.args.c < c.args.n = omega arith in
    swap_is _ _ _ _ _ c.told-b upper c.requires.2 c.requires.0
    (parts_exchanged _ _ _ _ (row_before _ _ _ c.requires.1) (omega (arith, within)) cut.front cut.back (omega arith) swapped.after swapped.other_after)
    c.swap.ensures.after
