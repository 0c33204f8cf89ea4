use mathlib.Core.Path.{◌≡◌}
use native.Mathlib.Omega.{arith}
use Rattle.number.proofs.Table.{fill_at_none, fill_at_more}
use Rattle.em_coefficients.proofs.Parts.{place_still}
use Rattle.em_coefficients.proofs.add_products.Goals as goal

pub loop-c-init : goal.loop-c-init
loop-c-init c = fill_at_none _ _ _

pub loop-c-preserved : goal.loop-c-preserved
loop-c-preserved c = fill_at_more _ _ _ _ c.loop-c.invariant (place_still _ _ _ _ _ c.loop-c.invariant (omega arith)) (omega arith)

pub returns : goal.returns
returns c = let e : c.loop-c.c ≡ c.args.order = omega arith in rw e at c.loop-c.invariant
