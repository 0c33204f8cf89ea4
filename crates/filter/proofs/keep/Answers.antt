-- `keep` meets its contract: the predicted row is stored after the filtered one.
use native.Mathlib.Omega.{arith}
use Rattle.rows.proofs.Stored.{row_long}
use Rattle.filter.proofs.keep.Goals as goal

pub overflow_add-n : goal.overflow_add-n
overflow_add-n c = omega (arith, c.requires)

pub store-requires-2 : goal.store-requires-2
store-requires-2 c =
    let h = c.requires in
    (h.0, omega (arith, h.3, row_long _ _ _ _ _ c.store.ensures h.3))

pub returns : goal.returns
returns c = rw (← c.store.ensures) c.store-2.ensures
