use mathlib.Core.Path.{◌≡◌}
use native.Mathlib.Omega.{arith}
use Rattle.window.proofs.Arithmetic.{divided_none, divided_more, k_positive, label_is}
use Rattle.window.proofs.label.Goals as goal

pub loop-init : goal.loop-init
loop-init c = (omega arith, divided_none _ _)

pub nonzero_div-rest : goal.nonzero_div-rest
nonzero_div-rest c = k_positive c.requires.window_number

pub loop-preserved : goal.loop-preserved
loop-preserved c = (omega arith, divided_more _ _ _ c.loop.invariant.1)

pub returns : goal.returns
returns c = let all : c.loop.counter ≡ c.args.l = omega arith in label_is c.requires.window_number _ (rw all at c.loop.invariant.1)
