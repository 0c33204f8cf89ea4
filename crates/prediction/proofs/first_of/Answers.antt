use mathlib.Core.Path.{◌≡◌}
use native.Mathlib.Omega.{arith}
use Prim.Native.Nat.{ℕ, ◌<◌}
use Rattle.window.specs.Shape.{WindowNumber}
use Rattle.window.specs.declared.Sizes.{Sizes}
use Rattle.window.proofs.Arithmetic.{divided_none, divided_more, label_is}
use Rattle.prediction.proofs.Turns.{label_small, first_none, first_more, first_all}
use Rattle.prediction.proofs.first_of.Goals.{After-label-oldest}
use Rattle.prediction.proofs.first_of.Goals as goal

a-window : {a : ℕ} (sizes : Sizes) → a < sizes.windows → WindowNumber sizes.k sizes.order a
a-window sizes h = record { shape = sizes.shape; below = rw sizes.windows_value at h }

-- the oldest label is below k, and k is at most 16
oldest-small : (c : After-label-oldest) → c.label-oldest.result < 16
oldest-small c =
    omega (arith, label_small (a-window c.args.sizes c.requires.2) c.label-oldest.ensures (omega arith), c.args.sizes.shape.high)

pub offset_bounds-shares-oldest : goal.offset_bounds-shares-oldest
offset_bounds-shares-oldest c = omega (arith, oldest-small c)

pub bounds-shares-oldest : goal.bounds-shares-oldest
bounds-shares-oldest c = omega (arith, oldest-small c)

pub loop-init : goal.loop-init
loop-init c = (divided_none _ _, first_none c.args.q.now c.args.shares.now c.args.sizes c.args.a c.requires.0 c.requires.1 _ c.label-oldest.ensures)

pub loop-preserved : goal.loop-preserved
loop-preserved c =
    let w = a-window c.args.sizes c.requires.2 in
    let done = c.loop.invariant in
    let next = divided_more _ _ _ done.0 in
    (next, first_more c.args.q.now c.args.shares.now c.args.sizes c.args.a c.requires.0 c.requires.1 _ _ _ done.1 (label_is w _ done.0) (label_is w _ next))

pub returns : goal.returns
returns c =
    let e : c.loop.counter ≡ c.args.sizes.order = omega arith in
    first_all c.args.q.now c.args.shares.now c.args.sizes c.args.a c.requires.0 c.requires.1 (rw e at c.loop.invariant.1)
