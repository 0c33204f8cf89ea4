-- The new variances: Σ g ε² / Σ g with the residual ε = x_0 - φ_1 x_1 - .. - φ_p x_p, x_l = y[t-l] - μ[s_l], but at least the floor; for each block of
-- labels. After Kim and Nelson (1999), 4.3, and document 01, "EM step"; model.rs, `update_variances`.
use Rattle.std.specs.Prelude.{ℕ, zero, suc, Bool, ◌&&◌, List, Float, if◌then◌else◌}
use Rattle.std.specs.Float.Ieee.{lt}
use Rattle.number.specs.Number.{◌=?◌, ◌⊖◌, ◌⊗◌, ◌⊘◌, zero⁺, max_of}
use Rattle.number.specs.Sums.{sum_where}
use Rattle.number.specs.Table.{◌!◌, fill_at}
use Rattle.params.specs.declared.MsarParams.{MsarParams}
use Rattle.params.specs.Parameters.{p, φ, block_of}
use Rattle.em_sample_variance.specs.Series.{sample_variance}
use Rattle.rows.specs.Smoothed.{places, label_at, weight_at, seen, distance}
use Rattle.em_ridge.specs.Ridge.{small}

-- the residual at place e with its first l lags
unfoldable pub residual_to : MsarParams → List Float → ℕ → ℕ → Float
residual_to q y e zero = distance q y e 0
residual_to q y e (suc l) = residual_to q y e l ⊖ φ q (label_at q e 0) (suc l) ⊗ distance q y e (suc l)

-- a place that counts for variance b
unfoldable pub in_block : MsarParams → (ℕ → List Float) → ℕ → ℕ → Bool
in_block q rows b e = seen q rows e && block_of q.variances_count (label_at q e 0) =? b

-- g ε²
unfoldable pub square_at : MsarParams → List Float → (ℕ → List Float) → ℕ → Float
square_at q y rows e = weight_at q rows e ⊗ residual_to q y e (p q) ⊗ residual_to q y e (p q)

module _ (q : MsarParams) (y : List Float) (n : ℕ) (rows : ℕ → List Float) where
  unfoldable pub squares : ℕ → Float
  squares b = sum_where (in_block q rows b) (square_at q y rows) (places q n)

  unfoldable pub weights : ℕ → Float
  weights b = sum_where (in_block q rows b) (weight_at q rows) (places q n)

  -- kept where the weights sum to 0, less or NaN; a NaN moment gives the floor
  unfoldable pub new_variance : ℕ → Float
  new_variance b =
      if lt zero⁺ (weights b) then max_of (squares b ⊘ weights b) (small ⊗ sample_variance y) else (q.variances ! b)

  -- over the first places of the old ones
  unfoldable pub new_variances : List Float
  new_variances = fill_at 0 new_variance q.variances_count q.variances
