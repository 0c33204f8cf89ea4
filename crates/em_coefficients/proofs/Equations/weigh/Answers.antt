-- A window is added to its block, or skipped.
use lib.ListN.{replicate}
use Rattle.number.specs.Number.{zero⁺}
use Rattle.em_coefficients.specs.Steps.{distance_of}
use Rattle.em_coefficients.proofs.Parts.{window_table, window_side}
use Rattle.em_coefficients.proofs.Equations.weigh.Goals as goal

pub returns-then-g : goal.returns-then-g
returns-then-g c =
    let a = c.args in
    let order = a.sizes.order in
    let d = distance_of a.sizes.k order a.distances.now a.a in
    let x = c.distances_of-x.ensures in
    record {
      tables = window_table a.b order a.g a.variance d (replicate 8 zero⁺) a.self.now.tables c.if-g.true x c.add.ensures.tables;
      sides = window_side a.b order a.g a.variance d (replicate 8 zero⁺) a.self.now.sides c.if-g.true x c.add.ensures.sides;
    }

pub returns-else-g : goal.returns-else-g
returns-else-g c = record { tables = rw c.if-g.false; sides = rw c.if-g.false }
