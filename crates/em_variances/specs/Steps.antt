-- What the steps of the code give, of parts that are lent one by one: residuals made lag by lag, and sums by place of work memory. The proofs show that
-- they are those of the definition.
use Rattle.std.specs.Prelude.{ℕ, suc, ◌+◌, ◌*◌, ◌/◌, ◌%◌, ◌≡◌, List, replicate, Float, if◌then◌else◌}
use Rattle.std.specs.Float.Ieee.{neg, lt}
use Rattle.number.specs.Number.{◌⊖◌, ◌⊗◌, ◌⊘◌, zero⁺, max_of}
use Rattle.number.specs.Table.{◌!◌, fill_at}
use Rattle.window.specs.Windows.{labels}
use Rattle.params.specs.declared.MsarParams.{MsarParams}
use Rattle.params.specs.Parameters.{k, p}
use Rattle.rows.specs.Rows.{windows_of}
use Rattle.rows.specs.Steps.{cell_at, counts_for}
use Rattle.rows.specs.declared.smoothed.Smoothed.{Smoothed}
use Rattle.density.specs.Steps.{lags_to, phis_from}
use Rattle.em_variances.specs.declared.Moments.{Moments}

-- the coefficients by lag and label, with their signs turned
unfoldable pub turned : List Float → List Float
turned phis = fill_at 0 (λ e. neg (phis ! e)) 112 phis

-- the residual of window a for the reading at time t; the signs of phis are turned
unfoldable pub residual_by : ℕ → ℕ → List Float → List Float → List Float → ℕ → ℕ → Float
residual_by k order phis means y t a = lags_to (λ s. y ! t ⊖ means ! s) k phis means y t (labels k (suc order) a) order

-- that at place e: window e % m of row e / m
unfoldable pub residual_in : ℕ → ℕ → ℕ → List Float → List Float → List Float → ℕ → Float
residual_in k order m phis means y e = residual_by k order phis means y (order + e / m) (e % m)

-- the sums over all places before e, for each variance; ε has the residuals by place
pub record Summed (k count : ℕ) (work : List Float) (ε : ℕ → Float) (e : ℕ) (squares weights : List Float) : Type 0 where
  pub squared : squares ≡ fill_at 0 (cell_at (counts_for k count work) (λ _ x. work ! x ⊗ ε x ⊗ ε x) e) 16 (replicate 16 zero⁺)
  pub weighed : weights ≡ fill_at 0 (cell_at (counts_for k count work) (λ _ x. work ! x) e) 16 (replicate 16 zero⁺)

-- the same over the windows of the rows before row i, of which the code reads these
abbrev pub RowsSummed : MsarParams → List Float → Smoothed → ℕ → Moments → Type 0
RowsSummed q phis s i sums =
    Summed s.sizes.k q.variances_count s.work.now (residual_in s.sizes.k s.sizes.order s.sizes.windows phis q.means s.y.now) (i * s.sizes.windows) sums.squares sums.weights

-- the new variance of the sums over all rows
unfoldable pub variance_of : Float → Float → Float → Float → Float
variance_of floor square weight old = if lt zero⁺ weight then max_of (square ⊘ weight) floor else old

-- all of them, by n rows in work memory
unfoldable pub variances_by : MsarParams → List Float → Float → ℕ → List Float → List Float
variances_by q y floor n work =
    let m = windows_of q in
    let ε = residual_in (k q) (p q) m (turned (phis_from q.ar q.ar_blocks (k q) (p q))) q.means y in
    let squares = cell_at (counts_for (k q) q.variances_count work) (λ _ x. work ! x ⊗ ε x ⊗ ε x) (n * m) in
    let weights = cell_at (counts_for (k q) q.variances_count work) (λ _ x. work ! x) (n * m) in
    fill_at 0 (λ b. variance_of floor (squares b) (weights b) (q.variances ! b)) q.variances_count q.variances
