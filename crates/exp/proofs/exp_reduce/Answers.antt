-- `exp_reduce`: by the high word and the sign, the case of the definition; what each case asks of x follows from them.
use mathlib.Core.Path.{◌≡◌, sym, ap, subst, ◌∙◌}
use mathlib.Core.Bool.{true, false}
use borrow.Author.Tests.{lt-ltb, le-ltb}
use lib.Dec.{T}
use Rattle.exp.specs.Exp.{exp_far, exp_reduce}
use Rattle.exp.specs.Range.{Sized}
use Rattle.exp.proofs.Size.{above_zero, below_zero}
use Rattle.exp.proofs.exp_reduce.Goals.{Start}
use Rattle.exp.proofs.exp_reduce.Goals as goal

above : (c : Start) → c.args.s ≡ 0 → Sized false c.args.x
above c = above_zero c.args.x c.args.hx c.args.s (subst T (sym c.well_formed.0.1) tt) c.requires.0 c.requires.1

below : (c : Start) → (c.args.s ≡ 0 → ⊥) → Sized true c.args.x × (c.args.s ≡ 1)
below c = below_zero c.args.x c.args.hx c.args.s (subst T (sym c.well_formed.0.1) tt) c.requires.0 c.requires.1

pub exp_near-requires : goal.exp_near-requires
exp_near-requires c = (c.requires.0, c.if-hx-gt1071001154.true, c.if-hx-lt1072734898.true)

pub returns-then-hx-lt1072734898 : goal.returns-then-hx-lt1072734898
unfolding exp_reduce
returns-then-hx-lt1072734898 c = simp (lt-ltb _ _ c.if-hx-gt1071001154.true, lt-ltb _ _ c.if-hx-lt1072734898.true) c.exp_near.ensures

pub exp_up-requires : goal.exp_up-requires
exp_up-requires c = let start = c.before.before.before in (above start c.if-s-eq0.true, start.requires.2)

pub returns-then-s-eq0 : goal.returns-then-s-eq0
unfolding exp_reduce
returns-then-s-eq0 c =
    let far = c.before.before in
    let start = far in
    simp (lt-ltb _ _ far.if-hx-gt1071001154.true, le-ltb _ _ far.if-hx-lt1072734898.false) (c.exp_up.ensures ∙ ap (exp_far start.args.x) (sym c.if-s-eq0.true))

pub exp_down-requires : goal.exp_down-requires
exp_down-requires c = (below c.before.before.before c.if-s-eq0.false).0

pub returns-then-hx-gt1071001154 : goal.returns-then-hx-gt1071001154
unfolding exp_reduce
returns-then-hx-gt1071001154 c =
    let far = c.before.before in
    let start = far.before.before in
    simp (lt-ltb _ _ far.if-hx-gt1071001154.true, le-ltb _ _ far.if-hx-lt1072734898.false) (c.exp_down.ensures ∙ ap (exp_far start.args.x) (sym (below start c.if-s-eq0.false).1))

pub returns-then-hx-lt1043333120 : goal.returns-then-hx-lt1043333120
unfolding exp_reduce
returns-then-hx-lt1043333120 c = simp (le-ltb _ _ c.if-hx-gt1071001154.false, lt-ltb _ _ c.if-hx-lt1043333120.true)

pub returns : goal.returns
unfolding exp_reduce
returns c = simp (le-ltb _ _ c.if-hx-gt1071001154.false, le-ltb _ _ c.if-hx-lt1043333120.false) c.exp_zero.ensures
