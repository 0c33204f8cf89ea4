-- `cases::two`: the record that it makes is the definition's.
use lib.Ieee.{of_bits}
use Rattle.cases.proofs.two.Goals as goal

pub returns : goal.returns
unfolding of_bits
returns c = rw (c.pair.ensures, c.pair-2.ensures)
