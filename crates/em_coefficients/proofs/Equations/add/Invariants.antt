-- A window is added to its block's table and side, row by row.
use mathlib.Core.Path.{◌≡◌}
use Rattle.em_coefficients.proofs.Parts.{table_to, side_to}
use Rattle.em_coefficients.proofs.Equations.add.Given as goal

abbrev pub invariant-loop-l : goal.invariant-loop-l
invariant-loop-l l =
    record {
      tables : l.self.tables ≡ table_to l.b l.order l.w l.x l.initial.self.tables l.l;
      sides : l.self.sides ≡ side_to l.b l.order l.w l.x l.initial.self.sides l.l;
    }
