-- A window is added label by label.
use Prim.Native.Nat.{◌*◌}
use mathlib.Core.Path.{◌≡◌}
use Rattle.number.specs.Table.{fill_at}
use Rattle.em_means.specs.Steps.{cell_added, side_added}
use Rattle.em_means.proofs.Equations.add_labels.Given as goal

abbrev pub invariant-loop-r : goal.invariant-loop-r
invariant-loop-r l =
    let old = l.initial.self in
    (l.self.table ≡ fill_at 0 (cell_added l.row l.k l.gw old.table) (l.r * l.k) old.table) × (l.self.side ≡ fill_at 0 (side_added l.row l.k l.gw l.d old.side) l.r old.side)
