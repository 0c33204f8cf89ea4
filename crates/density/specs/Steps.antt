-- What the steps of the code give: tables by window number, made once for a call or a row. The proofs show that they are the density's.
use Rattle.std.specs.Prelude.{ℕ, zero, suc, ◌+◌, ◌-◌, ◌*◌, ◌/◌, ◌%◌, ◌≡◌, List, replicate, Float}
use Rattle.number.specs.Number.{◌⊕◌, ◌⊖◌, ◌⊗◌, ◌⊘◌, zero⁺}
use Rattle.number.specs.Table.{◌!◌, fill_at}
use Rattle.root.specs.Root.{root_of}
use Rattle.logarithm.specs.Log.{log_of}
use Rattle.exp.specs.Exp.{exp_of}
use Rattle.normal.specs.Normal.{lnpdf_of}
use Rattle.window.specs.Windows.{label, labels}
use Rattle.window.specs.declared.Time.{Time}
use Rattle.params.specs.declared.MsarParams.{MsarParams}
use Rattle.params.specs.Parameters.{k, p, block_of, variance}
use Rattle.density.specs.Density.{mean_to}

-- the variances by label: `own` has as many of them as are counted
unfoldable pub variances_from : List Float → ℕ → ℕ → List Float
variances_from own count k = fill_at 0 (λ s. own ! block_of count s) k (replicate 16 zero⁺)

-- the standard deviation under window a, and its logarithm: its label now is a % k
unfoldable pub deviation_at : MsarParams → ℕ → Float
deviation_at q a = root_of (variance q (a % k q))

unfoldable pub log_at : MsarParams → ℕ → Float
log_at q a = log_of (deviation_at q a)

-- the mean of window a with its first l lags
unfoldable pub mean_at : MsarParams → List Float → Time → ℕ → ℕ → Float
mean_at q y t l a = mean_to q y t (labels (k q) (suc (p q)) a) l

-- the window w of labels with its first l lags, on f of its label now: f s_0 + φ_1 (y[t-1] - μ[s_1]) + ..; phis is by lag and label
unfoldable pub lags_to : (ℕ → Float) → ℕ → List Float → List Float → List Float → ℕ → List ℕ → ℕ → Float
lags_to f k phis means y t w zero = f (label w 0)
lags_to f k phis means y t w (suc l) =
    lags_to f k phis means y t w l ⊕ phis ! (l * k + label w 0) ⊗ (y ! (t - suc l) ⊖ means ! label w (suc l))

-- the exponent of a density, by the tables; prediction × density by a row of exponents, and by the tables
unfoldable pub exponent_at : Float → List Float → List Float → List Float → ℕ → Float
exponent_at reading means deviations logarithms a = lnpdf_of ((reading ⊖ means ! a) ⊘ deviations ! a) ⊖ logarithms ! a

unfoldable pub weight_of : List Float → List Float → ℕ → Float
weight_of predicted exponents a = predicted ! a ⊗ exp_of (exponents ! a)

unfoldable pub weight_at : Float → List Float → List Float → List Float → List Float → ℕ → Float
weight_at reading means deviations logarithms predicted a = predicted ! a ⊗ exp_of (exponent_at reading means deviations logarithms a)

-- φ by lag and label: place l · k + s is φ_(l+1) of label s
unfoldable pub phis_from : List Float → ℕ → ℕ → ℕ → List Float
phis_from ar blocks k order = fill_at 0 (λ e. ar ! (block_of blocks (e % k) * order + e / k)) (order * k) (replicate 112 zero⁺)

abbrev pub phis_of : MsarParams → List Float
phis_of q = phis_from q.ar q.ar_blocks (k q) (p q)

-- one lag more, for the windows of one label more: window c goes on from c % step, and its new oldest label is c / step;
-- phis begins with the coefficients of that lag
unfoldable pub lagged_at : List Float → List Float → List Float → Float → ℕ → ℕ → ℕ → Float
lagged_at row phis means reading k step c = row ! (c % step) ⊕ phis ! (c % k) ⊗ (reading ⊖ means ! (c / step))

-- parameters whose parts are lent one by one
pub record Parts (q : MsarParams) (count order : ℕ) (means phis : List Float) : Type 0 where
  pub count_is : k q ≡ count
  pub order_is : p q ≡ order
  pub means_are : q.means ≡ means
  pub phis_are : phis_of q ≡ phis
