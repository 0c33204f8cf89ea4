-- `cases::p3`: P3: what the functions answer is the example's.
use Rattle.spec.specs.Spec.{window_count, spec_check}
use Rattle.cases.proofs.p3.Goals as goal

pub returns : goal.returns
unfolding window_count spec_check
returns c = rw (c.counts.ensures, c.counts-2.ensures, c.refuses.ensures, c.refuses-2.ensures, c.refuses-3.ensures, c.refuses-4.ensures, c.refuses-5.ensures)
