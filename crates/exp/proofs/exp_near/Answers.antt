-- `exp_near`: one is added to y's exponent or taken from it, and y's exponent is in the middle.
use mathlib.Core.Bool.{true}
use mathlib.Core.Path.{◌≡◌, sym, ap, subst, ◌∙◌}
use native.Mathlib.Omega.{arith}
use Prim.Native.Nat.{ℕ, ◌<◌}
use lib.Dec.{T}
use lib.Ieee.{Float, fits, binary64}
use Rattle.exp.specs.Range.{Split}
use Rattle.number.specs.Number.{◌⊖◌}
use Rattle.number.specs.Table.{◌!◌}
use Rattle.exp.specs.Exp.{ln2_hi, ln2_lo, exp_part, exp_near, exp_scale}
use Rattle.rounding.proofs.Pattern.{number_pattern}
use Rattle.exp.proofs.Reduced.{Ready, near_ready, near_scale}
use Rattle.exp.proofs.exp_near.Goals.{After-exp_part-y}
use Rattle.exp.proofs.exp_near.Goals as goal

part-ready :
    (x : Float) (hx s : ℕ) → fits binary64 x ≡ true → Split x hx s × (0x3fd6_2e42 < hx) × (hx < 0x3ff0_a2b2) →
    Ready (exp_part (x ⊖ ln2_hi ! s) (ln2_lo ! s)) × (s < 2)
part-ready x hx s f r = near_ready x hx s (subst T (sym f) tt) r.0 r.1 r.2

y-ready : (c : After-exp_part-y) → Ready c.exp_part-y.result
y-ready c = subst Ready (sym c.exp_part-y.ensures) (part-ready c.args.x c.args.hx c.args.s c.well_formed.0.1 c.requires).0

pub offset_bounds-s : goal.offset_bounds-s
offset_bounds-s c = omega (arith, (part-ready c.args.x c.args.hx c.args.s c.well_formed.0.1 c.requires).1)

pub bounds-s : goal.bounds-s
bounds-s c = omega (arith, (part-ready c.args.x c.args.hx c.args.s c.well_formed.0.1 c.requires).1)

pub offset_bounds-s-2 : goal.offset_bounds-s-2
offset_bounds-s-2 c = omega (arith, (part-ready c.args.x c.args.hx c.args.s c.well_formed.0.1 c.requires).1)

pub bounds-s-2 : goal.bounds-s-2
bounds-s-2 c = omega (arith, (part-ready c.args.x c.args.hx c.args.s c.well_formed.0.1 c.requires).1)

pub float_to_bits-result : goal.float_to_bits-result
float_to_bits-result c = (y-ready c).number

pub overflow_add-result : goal.overflow_add-result
overflow_add-result c = let m = (y-ready c).exponent in omega arith

pub overflow_mul-result : goal.overflow_mul-result
overflow_mul-result c = omega (arith, (part-ready c.args.x c.args.hx c.args.s c.well_formed.0.1 c.requires).1)

pub overflow_sub-result : goal.overflow_sub-result
overflow_sub-result c = let m = (y-ready c).exponent in omega (arith, (part-ready c.args.x c.args.hx c.args.s c.well_formed.0.1 c.requires).1)

pub float_from_bits-result : goal.float_from_bits-result
float_from_bits-result c = let m = (y-ready c).exponent in number_pattern _ (omega arith)

pub returns : goal.returns
unfolding exp_near
returns c =
    let s = c.args.s in
    near_scale c.exp_part-y.result s (y-ready c) (part-ready c.args.x c.args.hx c.args.s c.well_formed.0.1 c.requires).1 ∙ ap (λ (y : Float). exp_scale y 1 s) c.exp_part-y.ensures
