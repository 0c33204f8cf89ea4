-- `weigh` meets its contract: the exponents, then what is weighed by them.
use native.Mathlib.Omega.{arith}
use Rattle.density.proofs.Weights.{weights_by_exponents, total_by_exponents}
use Rattle.density.proofs.weigh.Goals as goal

pub returns : goal.returns
returns c =
    let a = c.args in
    let e = c.exponents.ensures in
    record { weights = weights_by_exponents a.reading _ _ _ _ _ a.m (omega arith) e c.weigh_exponents.ensures.row; total = total_by_exponents a.reading _ _ _ _ _ a.m (omega arith) e c.weigh_exponents.ensures.total }
