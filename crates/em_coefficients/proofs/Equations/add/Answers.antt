use mathlib.Core.Path.{◌≡◌}
use native.Mathlib.Omega.{arith}
use borrow.Author.Rules.{rules}
use lib.ListN.{length}
use Rattle.number.proofs.Table.{fill_at_none}
use Rattle.em_coefficients.proofs.Parts.{side_fits, table_fits, table_none, table_more, table_all, side_more, side_all}
use Rattle.em_coefficients.proofs.Equations.add.Goals as goal

pub loop-l-init : goal.loop-l-init
loop-l-init c =
    let a = c.args in
    record { tables = table_none a.b a.order a.w a.x.now a.self.now.tables; sides = fill_at_none _ _ _ }

pub loop-l-preserved : goal.loop-l-preserved
loop-l-preserved c =
    let a = c.args in
    let tables : length a.self.now.tables ≡ 784 = search rules in
    let sides : length a.self.now.sides ≡ 112 = search rules in
    record {
      tables = table_more a.b a.order a.w a.x.now a.self.now.tables _ c.loop-l.invariant.tables (rw tables (table_fits c.requires.1 c.requires.0)) c.loop-l-test.true c.add_products.ensures;
      sides = side_more a.b a.order a.w a.x.now a.self.now.sides _ c.loop-l.invariant.sides (omega (arith, sides, side_fits c.requires.1 c.requires.0));
    }

pub returns : goal.returns
returns c =
    let a = c.args in
    let e : c.loop-l.l ≡ a.order = omega arith in
    record {
      tables = table_all a.b a.order a.w a.x.now a.self.now.tables (rw e at c.loop-l.invariant.tables);
      sides = side_all a.b a.order a.w a.x.now a.self.now.sides (rw e at c.loop-l.invariant.sides);
    }
