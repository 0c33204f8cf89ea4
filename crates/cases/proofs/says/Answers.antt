-- `cases::says`: number and place of the refusal.
use Rattle.cases.proofs.says.Goals as goal

pub returns : goal.returns
returns c = rw (c.number.ensures, c.place.ensures)
