-- `exp_large`: an infinity, too large, too small, or within the range that is reduced.
use mathlib.Core.Path.{◌≡◌, sym, subst}
use Prim.Native.Nat.{◌%◌, ◌^◌, ◌≤◌}
use borrow.Author.Tests.{le-leb, lt-leb, eq-eqb, ne_eqb}
use lib.Dec.{T}
use Rattle.number.specs.Number.{pattern_of}
use Rattle.exp.specs.Exp.{exp_large}
use Rattle.exp.proofs.Size.{infinite, within_range}
use Rattle.exp.proofs.exp_large.Goals.{Start}
use Rattle.exp.proofs.exp_large.Goals as goal

infinity : (c : Start) → 0x7ff0_0000 ≤ c.args.hx → pattern_of c.args.x % 2 ^ 52 ≡ 0
infinity c = infinite c.args.x c.args.hx c.args.s (subst T (sym c.well_formed.0.1) tt) c.requires.1 c.requires.0

pub returns-then-s-eq0 : goal.returns-then-s-eq0
unfolding exp_large
returns-then-s-eq0 c = let h = c.if-hx-ge2146435072.true in simp (le-leb _ _ h, eq-eqb _ _ (infinity c.before.before h), eq-eqb _ _ c.if-s-eq0.true)

pub returns-then-hx-ge2146435072 : goal.returns-then-hx-ge2146435072
unfolding exp_large
returns-then-hx-ge2146435072 c = let h = c.if-hx-ge2146435072.true in simp (le-leb _ _ h, eq-eqb _ _ (infinity c.before.before h), ne_eqb _ _ c.if-s-eq0.false)

pub returns-then-x : goal.returns-then-x
unfolding exp_large
returns-then-x c = simp (lt-leb _ _ c.if-hx-ge2146435072.false, c.if-x.true)

pub returns-then-x-2 : goal.returns-then-x-2
unfolding exp_large
returns-then-x-2 c = simp (lt-leb _ _ c.if-hx-ge2146435072.false, c.if-x.false, c.if-x-2.true)

pub exp_reduce-requires : goal.exp_reduce-requires
exp_reduce-requires c =
    let start = c in
    let within = within_range start.args.x start.args.hx start.args.s start.requires.1 start.requires.0 c.if-hx-ge2146435072.false c.if-x.false c.if-x-2.false in
    (start.requires.0, within, c.if-x.false)

pub returns : goal.returns
unfolding exp_large
returns c = simp (lt-leb _ _ c.if-hx-ge2146435072.false, c.if-x.false, c.if-x-2.false) c.exp_reduce.ensures
