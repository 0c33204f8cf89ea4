-- `mixes`: by rule 2, at order zero.
use Rattle.prediction.specs.Prediction.{mixes}
use Rattle.prediction.proofs.mixes.Goals as goal

pub returns-in-One : goal.returns-in-One
unfolding mixes
returns-in-One c = rw c.in-One.is

pub returns-in-Two : goal.returns-in-Two
unfolding mixes
returns-in-Two c = rw c.in-Two.is
