-- What stands before the place, then the text, as far as there is room; and what stands behind is as it was.
use Rattle.std.proofs.Common.{arith}
use Rattle.text_words.proofs.Joined.{so_far, behind}
use Rattle.text_words.proofs.put.Goals as goal

pub returns-clause-so_far : goal.returns-clause-so_far
returns-clause-so_far c = so_far _ _ _ _ _ _ c.min-n.ensures (omega arith) c.copy_from_slice.ensures.after _ c.min-from.ensures

pub returns-clause-behind : goal.returns-clause-behind
returns-clause-behind c = behind _ c.args.text.now _ _ _ _ c.min-n.ensures (omega arith) c.copy_from_slice.ensures.after (omega arith)
