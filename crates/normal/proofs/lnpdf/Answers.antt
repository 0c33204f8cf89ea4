-- `lnpdf`: the definition, operation by operation.
use borrow.Author.Rules.{rules}
use Rattle.normal.specs.Normal.{lnpdf_of}
use Rattle.normal.proofs.lnpdf.Goals as goal

pub returns : goal.returns
unfolding lnpdf_of
returns c = search rules
