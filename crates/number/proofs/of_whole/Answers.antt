-- `of_whole`: below 2^31 the sign bit of the i32 is clear.
use mathlib.Core.Path.{ap}
use borrow.Author.Tests.{le-leb}
use lib.Ieee.{binary64, of_int}
use Rattle.number.proofs.of_whole.Goals as goal

pub returns : goal.returns
returns c = ap (of_int binary64) (rw (le-leb _ _ c.requires))
