use mathlib.Core.Path.{refl, ap, sym, ◌∙◌}
use native.Mathlib.Omega.{arith}
use lib.Ieee.{le}
use Rattle.msar_verdict.specs.Verdict.{is_enough}
use Rattle.msar_verdict.proofs.Enough.{needed_none, needed_more, needed_found, needed_most}
use Rattle.msar_verdict.proofs.needed.Goals as goal

pub loop-m-init : goal.loop-m-init
loop-m-init c = (omega arith, refl, needed_none _)

pub returns-then-three_durations-of_whole : goal.returns-then-three_durations-of_whole
unfolding is_enough
returns-then-three_durations-of_whole c = needed_found _ _ (omega arith) c.loop-m.invariant.2 (ap (le _) (sym c.of_whole.ensures) ∙ c.if-three_durations-of_whole.true)

pub loop-m-preserved : goal.loop-m-preserved
unfolding is_enough
loop-m-preserved c = (omega arith, refl, needed_more _ _ (omega arith) c.loop-m.invariant.2 (ap (le _) (sym c.of_whole.ensures) ∙ c.if-three_durations-of_whole.false))

pub returns : goal.returns
returns c = needed_most _ _ (omega arith) c.loop-m.invariant.2
