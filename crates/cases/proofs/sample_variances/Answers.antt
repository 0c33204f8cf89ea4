-- `cases::sample_variances`: P9: the two variances.
use mathlib.Core.Path.{◌∙◌}
use Rattle.em_sample_variance.proofs.Examples.{values}
use Rattle.cases.proofs.Values.{both, is_same}
use Rattle.cases.proofs.sample_variances.Goals as goal

pub returns : goal.returns
returns c = both (is_same c.is.ensures (c.sample_variance.ensures ∙ values.p9_spread)) (is_same c.is-2.ensures (c.sample_variance-2.ensures ∙ values.p9_constant))
