-- `scale_block` meets its contract: a block times the sums, place by place.
use mathlib.Core.Path.{◌≡◌}
use lib.ListN.{length, drop}
use Rattle.number.specs.Table.{fill_at}
use Rattle.smoother.specs.Steps.{scaled_at}
use Rattle.smoother.proofs.scale_block.Given as goal

abbrev pub invariant-loop-c : goal.invariant-loop-c
invariant-loop-c l = (length l.work ≡ length l.initial.work) × (l.work ≡ fill_at l.at (scaled_at l.sums (drop l.at l.initial.work)) l.c l.initial.work)
