use mathlib.Core.Path.{ap, ◌∙◌}
use native.Mathlib.Nat.{zero-add}
use native.Mathlib.Omega.{arith}
use Rattle.number.specs.Table.{◌!◌}
use Rattle.number.proofs.Table.{part_tab, fill_at_put}
use Rattle.number.proofs.copy.Goals as goal

pub returns : goal.returns
returns c =
    fill_at_put _ _ _ _ (omega arith) (c.copy_from_slice.ensures.after ∙ part_tab _ 0 _ _ (omega arith) (λ i _. ap (λ j. c.args.from.now ! j) (zero-add i)))
