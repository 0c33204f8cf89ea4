-- `cases::p1`: P1: what the functions answer is the example's.
use Rattle.window.specs.Windows.{labels, number}
use Rattle.cases.proofs.p1.Goals as goal

pub returns : goal.returns
unfolding labels number
returns c =
    rw (c.label-s0.ensures, c.label-s1.ensures, c.label-s2.ensures, c.successor-after0.ensures, c.successor-after1.ensures, c.successor-after2.ensures, c.predecessor-before0.ensures, c.predecessor-before1.ensures, c.predecessor-before2.ensures)
