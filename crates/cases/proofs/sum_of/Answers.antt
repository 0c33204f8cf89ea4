-- `cases::sum_of`: the sum upward of three places.
use Rattle.cases.proofs.Values.{sum_three}
use Rattle.cases.proofs.sum_of.Goals as goal

pub returns : goal.returns
returns c = sum_three c.args.row.now c.copy.ensures c.tabulate.ensures
