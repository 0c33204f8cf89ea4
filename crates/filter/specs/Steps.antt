-- What the steps of the code are handed and leave: the tables that are made once a call, and the rows that stand in work memory. The proofs show
-- that the rows are the filter's.
use Rattle.std.specs.Prelude.{ℕ, suc, ◌+◌, ◌<◌, ◌≡◌, List, drop, replicate, Float}
use Rattle.number.specs.Number.{zero⁺}
use Rattle.number.specs.Table.{◌!◌, fill_at}
use Rattle.window.specs.Windows.{labels}
use Rattle.params.specs.declared.MsarParams.{MsarParams}
use Rattle.params.specs.Parameters.{k, p}
use Rattle.rows.specs.Rows.{Same}
use Rattle.rows.specs.Memory.{predicted_from, filtered_from}
use Rattle.prediction.specs.declared.Rule.{Rule}
use Rattle.density.specs.Steps.{Parts, deviation_at, log_at}
use Rattle.filter.specs.Filter.{weight, total, predicted_row, filtered_row}

-- what the weights of m windows are made of, beside a prediction and the series
pub record Scales (q : MsarParams) (count order m : ℕ) (means phis deviations logarithms : List Float) : Type 0 where
  pub parts : Parts q count order means phis
  pub deviations_are : deviations ≡ fill_at 0 (deviation_at q) m (replicate 256 zero⁺)
  pub logarithms_are : logarithms ≡ fill_at 0 (log_at q) m (replicate 256 zero⁺)

-- the weights of row i, and their sum
pub record Weighed (q : MsarParams) (y : List Float) (m i : ℕ) (predicted weights : List Float) (likelihood : Float) : Type 0 where
  pub weights_are : (a : ℕ) → a < m → weights ! a ≡ weight q y i predicted (labels (k q) (suc (p q)) a)
  pub likelihood_is : likelihood ≡ total q y i predicted

-- of n rows those before row i stand in work memory, where they are among the first `kept`: the filtered rows count first, the predicted behind them
pub record Held (rule : Rule) (q : MsarParams) (y shares : List Float) (n m kept i : ℕ) (work : List Float) : Type 0 where
  pub filtered : (j : ℕ) → j < i → j < kept → Same m (drop (filtered_from m j) work) (filtered_row rule q y shares j)
  pub predicted : (j : ℕ) → j < i → n + j < kept → Same m (drop (predicted_from n m j) work) (predicted_row rule q y shares j)
