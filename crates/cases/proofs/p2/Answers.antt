-- `cases::p2`: P2: what the functions answer is the example's.
use Rattle.window.specs.Windows.{labels, number}
use Rattle.cases.proofs.p2.Goals as goal

pub returns : goal.returns
unfolding labels number
returns c = rw (c.successor-after0.ensures, c.successor-after1.ensures, c.predecessor-before0.ensures, c.predecessor-before1.ensures)
