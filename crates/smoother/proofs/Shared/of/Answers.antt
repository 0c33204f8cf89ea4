-- `of`: at order 0 each label has its sum, else windows share one.
use Rattle.smoother.proofs.Common.{shared_sums, positive}
use Rattle.smoother.proofs.Shared.of.Goals as goal

pub invariant_of-result-2 : goal.invariant_of-result-2
invariant_of-result-2 c =
    let sizes = c.args.sizes in
    record { sharing = shared_sums sizes.k sizes.power sizes.order (positive sizes) sizes.power_value c.if-sizes-eq1.false }
