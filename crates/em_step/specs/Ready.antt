-- What a step is handed beside the smoothed rows: parameters of their sizes, and the floor of the variances.
use Rattle.std.specs.Prelude.{◌<◌, ◌≤◌, ◌≡◌, List, Float}
use Rattle.number.specs.Number.{◌⊗◌}
use Rattle.window.specs.declared.sizes.Sizes.{Sizes}
use Rattle.params.specs.declared.MsarParams.{MsarParams}
use Rattle.params.specs.Parameters.{k, p}
use Rattle.em_sample_variance.specs.Series.{sample_variance}
use Rattle.em_ridge.specs.Ridge.{small}

pub record Ready (q : MsarParams) (sizes : Sizes) (y : List Float) (floor : Float) : Type 0 where
  pub labels : sizes.k ≡ k q
  pub order : sizes.order ≡ p q
  pub floor_is : floor ≡ small ⊗ sample_variance y
  pub lagged : 0 < p q
  pub blocks : q.ar_blocks ≤ 16
  pub variances : q.variances_count ≤ 16
