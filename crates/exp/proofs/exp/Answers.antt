-- `exp`: a NaN, or by the high word of x the large arguments and the others.
use mathlib.Core.Path.{refl, sym, subst}
use borrow.Author.Tests.{le-leb, lt-leb}
use lib.Dec.{T}
use lib.Ieee.{add, to_bits}
use Rattle.number.proofs.Cases.{is_nan_lem}
use Rattle.exp.specs.Exp.{exp_of, exp_large}
use Rattle.exp.proofs.Size.{below_large}
use Rattle.exp.proofs.exp.Goals as goal

pub returns-then-is_nan : goal.returns-then-is_nan
unfolding exp_of exp_large add to_bits
returns-then-is_nan c = rw (← is_nan_lem c.args.x (sym c.if-is_nan.ensures.value)) refl

pub exp_large-requires : goal.exp_large-requires
exp_large-requires c = (record { word = refl; sign = refl }, sym c.if-is_nan.ensures.value)

pub returns-then-hx-ge1082535490 : goal.returns-then-hx-ge1082535490
unfolding exp_of
returns-then-hx-ge1082535490 c = simp (le-leb _ _ c.if-hx-ge1082535490.true) c.exp_large.ensures

pub exp_reduce-requires : goal.exp_reduce-requires
exp_reduce-requires c =
    let r = below_large c.args.x _ _ (subst T (sym c.well_formed.0.1) tt) (sym c.if-is_nan.ensures.value) (record { word = refl; sign = refl }) c.if-hx-ge1082535490.false in
    (record { word = refl; sign = refl }, r.0, r.1)

pub returns : goal.returns
unfolding exp_of
returns c = simp (lt-leb _ _ c.if-hx-ge1082535490.false) c.exp_reduce.ensures
