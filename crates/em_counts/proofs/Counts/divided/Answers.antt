-- A cell over its column, or the old one.
use Rattle.em_counts.proofs.Dividing.{kept, quotient}
use Rattle.em_counts.proofs.Counts.divided.Goals as goal

pub returns-then-self-j : goal.returns-then-self-j
returns-then-self-j c = λ k d. kept k _ _ _ _ d c.if-self-j.true

pub returns : goal.returns
returns c = λ k d. quotient k _ _ _ _ d c.if-self-j.false
