-- Document 01's P9, its series: their sample variances, computed. Assumes nothing.
use mathlib.Core.Path.{◌≡◌, refl}
use mathlib.Core.List.{[], ◌∷◌}
use lib.Ieee.{Float, add, sub, mul, div, of_int, of_bits}
use Rattle.number.specs.Number.{float, zero⁺, one, two}
use Rattle.number.specs.Sums.{sum_up}
use Rattle.em_sample_variance.specs.Series.{sample_mean, square_at, sample_variance}

abbrev pub three : Float
three = float 0x4008_0000_0000_0000

pub record Values : Type 0 where
  pub p9_spread : sample_variance (one ∷ three ∷ []) ≡ one
  pub p9_constant : sample_variance (two ∷ two ∷ []) ≡ zero⁺

pub values : Values
unfolding sample_variance sample_mean square_at sum_up add sub mul div of_int of_bits
values = record { p9_spread = refl; p9_constant = refl }
