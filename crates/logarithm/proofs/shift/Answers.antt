-- `shift`: the difference of two small whole numbers is exact.
use native.Mathlib.Omega.{arith}
use Rattle.rounding.proofs.Whole.{sub_whole}
use Rattle.logarithm.proofs.shift.Goals as goal

pub returns : goal.returns
returns c = sub_whole _ _ (omega arith) (omega arith)
