-- `log_poly`: the table's entries are the definition's.
use borrow.Author.Rules.{rules}
use Rattle.logarithm.specs.Log.{log_poly}
use Rattle.logarithm.proofs.log_poly.Goals as goal

pub returns : goal.returns
unfolding log_poly
returns c = search rules
