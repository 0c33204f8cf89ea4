use mathlib.Core.Path.{◌≡◌}
use native.Mathlib.Omega.{arith}
use Rattle.number.proofs.Table.{fill_at_none, fill_more}
use Rattle.params.specs.Durations.{duration}
use Rattle.params.proofs.stays.Goals as goal

pub loop-i-init : goal.loop-i-init
loop-i-init c = (omega arith, fill_at_none _ _ _)

pub loop-i-preserved : goal.loop-i-preserved
unfolding duration
loop-i-preserved c = (omega arith, fill_more _ _ _ c.loop-i.invariant.1 (rw c.step.ensures) (omega arith))

pub returns : goal.returns
returns c = let e : c.loop-i.i ≡ c.args.q.means_count = omega arith in rw e at c.loop-i.invariant.1
