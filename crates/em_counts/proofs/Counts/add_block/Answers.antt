use native.Mathlib.Nat.{add_assoc}
use Rattle.em_counts.proofs.Counting.{block_more}
use Rattle.em_counts.proofs.Counts.add_block.Goals as goal

pub loop-s-preserved : goal.loop-s-preserved
loop-s-preserved c =
    let h = c.requires.k_bound in
    let more = block_more c.args.k c.args.work.now h.0 c.args.c c.loop-s.s in
    rw (← add_assoc) (more c.loop-s-test.true h.1 h.2 c.loop-s.invariant)
