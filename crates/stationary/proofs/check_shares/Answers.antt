use mathlib.Core.Path.{◌≡◌, sym}
use native.Mathlib.Omega.{arith}
use lib.Ieee.{nan}
use Rattle.std.proofs.lemmas.List.{get_or-take}
use Rattle.refusal.proofs.Each.{each_none, each_more, each_found}
use Rattle.stationary.proofs.OneShare.{share_not_finite, share_below, share_passes}
use mathlib.Core.Path.{ap}
use mathlib.Core.Bool.{not}
use Rattle.stationary.proofs.check_shares.Goals as goal

pub loop-i-init : goal.loop-i-init
loop-i-init c = (omega arith, each_none _)

pub returns-then-not-is_finite : goal.returns-then-not-is_finite
returns-then-not-is_finite c = sym (each_found _ c.loop-i.i c.loop-i.invariant.1 _ (omega arith) (share_not_finite _ c.loop-i.i (get_or-take c.args.n c.args.x.now c.loop-i.i nan (omega arith)) c.is_finite.ensures (ap not c.if-not-is_finite.true)))

pub returns-then-not-v : goal.returns-then-not-v
returns-then-not-v c = sym (each_found _ c.loop-i.i c.loop-i.invariant.1 _ (omega arith) (share_below _ c.loop-i.i (get_or-take c.args.n c.args.x.now c.loop-i.i nan (omega arith)) c.is_finite.ensures (ap not c.if-not-is_finite.false) (ap not c.if-not-v.true)))

pub loop-i-preserved : goal.loop-i-preserved
loop-i-preserved c = (omega arith, each_more _ c.loop-i.i c.loop-i.invariant.1 (share_passes _ c.loop-i.i (get_or-take c.args.n c.args.x.now c.loop-i.i nan (omega arith)) c.is_finite.ensures (ap not c.if-not-is_finite.false) (ap not c.if-not-v.false)))

pub returns : goal.returns
returns c = let e : c.loop-i.i ≡ c.args.n = omega arith in sym (rw e at c.loop-i.invariant.1)
