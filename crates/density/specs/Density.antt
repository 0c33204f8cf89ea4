-- The density of the reading at time t under the labels of a window: y[t] is normal about the window's mean with the variance of s_0.
-- After Hamilton (1989): y_t - μ[s_0] = φ_1 (y_(t-1) - μ[s_1]) + .. + φ_p (y_(t-p) - μ[s_p]) + e_t; document 01, "Density".
use Rattle.std.specs.Prelude.{ℕ, zero, suc, ◌-◌, List, Float}
use Rattle.number.specs.Number.{◌⊕◌, ◌⊖◌, ◌⊗◌, ◌⊘◌}
use Rattle.number.specs.Table.{◌!◌}
use Rattle.root.specs.Root.{root_of}
use Rattle.logarithm.specs.Log.{log_of}
use Rattle.exp.specs.Exp.{exp_of}
use Rattle.normal.specs.Normal.{lnpdf_of}
use Rattle.window.specs.Windows.{label}
use Rattle.window.specs.declared.Time.{Time}
use Rattle.params.specs.declared.MsarParams.{MsarParams}
use Rattle.params.specs.Parameters.{p, μ, φ, variance}

-- the mean with its first l lags: μ[s_0] + φ_1 (y[t-1] - μ[s_1]) + .. + φ_l (y[t-l] - μ[s_l])
unfoldable pub mean_to : MsarParams → List Float → Time → List ℕ → ℕ → Float
mean_to q y t w zero = μ q (label w 0)
mean_to q y t w (suc l) = mean_to q y t w l ⊕ φ q (label w 0) (suc l) ⊗ (y ! (t.0 - suc l) ⊖ μ q (label w (suc l)))

-- the logarithm of the density of a normal number at that distance from its mean, by its standard deviation: lnpdf (distance / sd) - ln sd
unfoldable pub normal_exponent : Float → Float → Float
normal_exponent distance sd = lnpdf_of (distance ⊘ sd) ⊖ log_of sd

unfoldable pub log_density : MsarParams → List Float → Time → List ℕ → Float
log_density q y t w = normal_exponent (y ! t.0 ⊖ mean_to q y t w (p q)) (root_of (variance q (label w 0)))

unfoldable pub density : MsarParams → List Float → Time → List ℕ → Float
density q y t w = exp_of (log_density q y t w)
