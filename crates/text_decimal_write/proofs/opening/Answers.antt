use Rattle.std.proofs.Common.{Some, sym, ap, subst, ◌∙◌, arith}
use lib.Dec.{T}
use Rattle.text_decimal_write.specs.declared.Decimal.{Decimal}
use Rattle.text_decimal_write.proofs.Magnitudes.{opening_nan, opening_inf, opening_finite}
use Rattle.text_decimal_write.proofs.opening.Goals as goal

pub returns-then-magnitude-gt9218868437227405312-clause-decimal : goal.returns-then-magnitude-gt9218868437227405312-clause-decimal
returns-then-magnitude-gt9218868437227405312-clause-decimal c =
    sym (opening_nan c.args.x c.pattern-b.result (subst T (sym c.well_formed.0.1) tt) c.pattern-b.ensures c.if-magnitude-gt9218868437227405312.true).1

pub returns-then-magnitude-eq9218868437227405312-clause-decimal : goal.returns-then-magnitude-eq9218868437227405312-clause-decimal
returns-then-magnitude-eq9218868437227405312-clause-decimal c =
    sym (opening_inf c.args.x c.pattern-b.result (subst T (sym c.well_formed.0.1) tt) c.pattern-b.ensures c.if-magnitude-eq9218868437227405312.true).1

pub returns-clause-decimal : goal.returns-clause-decimal
returns-clause-decimal c =
    ap (λ (d : Decimal). Some d) c.of_magnitude.ensures.decimal
    ∙ sym (opening_finite c.args.x c.pattern-b.result (subst T (sym c.well_formed.0.1) tt) c.pattern-b.ensures (omega arith)).1
