-- The new table: all places counted, then divided cell by cell.
use Rattle.em_counts.proofs.Dividing.{table_by}
use Rattle.em_counts.proofs.Counting.{counted_none}
use Rattle.em_counts.proofs.new_transition.Goals as goal

pub add_blocks-requires-clause-counted : goal.add_blocks-requires-clause-counted
add_blocks-requires-clause-counted c = counted_none _ _ c.requires.0

pub returns : goal.returns
returns c =
    table_by c.args.k _ c.args.transition.now c.args.work.now c.add_blocks.ensures c.table.ensures
