-- The new transition table: how often label i came after label j, over how often anything came after j, by the smoothed windows.
-- After Hamilton (1990), Kim and Nelson (1999), 4.3, and document 01, "EM step".
use Rattle.std.specs.Prelude.{ℕ, ◌*◌, ◌/◌, ◌%◌, ◌&&◌, List, replicate, Float, if◌then◌else◌}
use Rattle.std.specs.Float.Ieee.{le}
use Rattle.number.specs.Number.{◌=?◌, ◌⊘◌, zero⁺}
use Rattle.number.specs.Sums.{sum_where}
use Rattle.number.specs.Table.{fill_at}
use Rattle.params.specs.declared.MsarParams.{MsarParams}
use Rattle.params.specs.Parameters.{k, P}
use Rattle.rows.specs.Smoothed.{places, label_at, weight_at}

module _ (q : MsarParams) (n : ℕ) (rows : ℕ → List Float) where
  unfoldable pub count : ℕ → ℕ → Float
  count i j = sum_where (λ e. label_at q e 0 =? i && label_at q e 1 =? j) (weight_at q rows) (places q n)

  unfoldable pub column_count : ℕ → Float
  column_count j = sum_where (λ e. label_at q e 1 =? j) (weight_at q rows) (places q n)

  -- the old column is kept where its count is at most zero; a NaN count divides
  unfoldable pub new_step : ℕ → ℕ → Float
  new_step i j = if le (column_count j) zero⁺ then P q i j else (count i j ⊘ column_count j)

  -- row by row in 256 places, the others positive zero
  unfoldable pub new_transition : List Float
  new_transition = fill_at 0 (λ e. new_step (e / k q) (e % k q)) (k q * k q) (replicate 256 zero⁺)
