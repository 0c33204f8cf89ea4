use Rattle.em_sample_variance.specs.Series.{sample_variance, sample_mean}
use Rattle.em_sample_variance.proofs.sample_variance.Goals as goal

pub returns : goal.returns
unfolding sample_variance sample_mean
returns c = rw (c.sum_of_squares.ensures, c.sum.ensures, c.of_whole-count.ensures)
