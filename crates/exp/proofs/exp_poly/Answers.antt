-- `exp_poly`: the table's entries are the definition's.
use borrow.Author.Rules.{rules}
use Rattle.exp.specs.Exp.{exp_poly}
use Rattle.exp.proofs.exp_poly.Goals as goal

pub returns : goal.returns
unfolding exp_poly
returns c = search rules
