use Prim.Native.Nat.{◌+◌, ◌*◌, ◌≤◌}
use mathlib.Core.Path.{◌≡◌, refl, ◌∙◌}
use native.Mathlib.Nat.{zero-mul, suc-mul}
use native.Mathlib.Numerals.{add-one}
use native.Mathlib.Omega.{arith}
use lib.ListN.{length}
use Rattle.std.proofs.lemmas.List.{take_rest}
use Rattle.number.proofs.Table.{fill_at_none, fill_at_long, fill_join, row_before}
use Rattle.rows.proofs.Places.{results_of_row}
use Rattle.rows.proofs.tabulate.Goals as goal

pub loop-i-init : goal.loop-i-init
loop-i-init c = (refl, rw zero-mul (fill_at_none _ _ _))

pub loop-i-preserved : goal.loop-i-preserved
loop-i-preserved c =
    let k = c.args.k in
    let i = c.loop-i.i in
    let e : (i + 1) * k ≡ i * k + k = rw add-one (suc-mul i k) in
    let same : length c.loop-i.table ≡ length c.args.table.now = c.loop-i.invariant.0 in
    let fits : i * k + k ≤ length c.loop-i.table = omega (arith, row_before k _ _ c.loop-i-test.true) in (
      fill_at_long (i * k) _ k _ c.label_sums.ensures fits ∙ same,
      rw e
          (c.label_sums.ensures
          ∙ fill_join _ _ (i * k) k _ c.loop-i.invariant.1 (omega arith) (λ s b. rw take_rest (results_of_row k _ _ _ i s b))),
    )
