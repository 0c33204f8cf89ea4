-- The new AR coefficients: (Σ g/σ² x x') φ = Σ g/σ² x x_0 with x = x_1, .., x_p, x_l = y[t-l] - μ[s_l], for each block over the windows whose label now
-- has that block. After Kim and Nelson (1999), 4.3, and document 01, "EM step"; model.rs, `update_ar`.
use Rattle.std.specs.Prelude.{ℕ, suc, ◌+◌, ◌*◌, ◌/◌, ◌%◌, Bool, ◌&&◌, List, replicate, Float, Result, Ok}
use Rattle.std.specs.Result.{result_unwrap_or}
use Rattle.number.specs.Number.{◌=?◌, ◌⊗◌, zero⁺}
use Rattle.number.specs.Sums.{sum_where}
use Rattle.number.specs.Table.{◌!◌, fill_at}
use Rattle.refusal.specs.Checks.{◌before◌, check_of, each}
use Rattle.refusal.specs.declared.Refusal.{Refusal}
use Rattle.params.specs.declared.MsarParams.{MsarParams}
use Rattle.params.specs.Parameters.{p, block_of}
use Rattle.rows.specs.Smoothed.{places, label_at, seen, precision, distance}
use Rattle.em_ridge.specs.Ridge.{solve_or_keep}

-- a place that counts for block b
unfoldable pub in_block : MsarParams → (ℕ → List Float) → ℕ → ℕ → Bool
in_block q rows b e = seen q rows e && block_of q.ar_blocks (label_at q e 0) =? b

-- g/σ² x_i x_j
unfoldable pub product_at : MsarParams → List Float → (ℕ → List Float) → ℕ → ℕ → ℕ → Float
product_at q y rows i j e = precision q rows e ⊗ distance q y e i ⊗ distance q y e j

-- n blocks of p coefficients, each with its answer: block b's stand from place b·p on; or the first refusal
unfoldable pub blocks_of : ℕ → ℕ → (ℕ → Result (List Float) Refusal) → List Float → Result (List Float) Refusal
blocks_of p n block ar =
    each n (λ b. check_of (block b)) before Ok (fill_at 0 (λ e. result_unwrap_or (block (e / p)) (replicate 16 zero⁺) ! (e % p)) (n * p) ar)

module _ (q : MsarParams) (y : List Float) (n : ℕ) (rows : ℕ → List Float) where
  -- lags start at one and a table's rows at zero
  unfoldable pub ar_cell : ℕ → ℕ → ℕ → Float
  ar_cell b i j = sum_where (in_block q rows b) (product_at q y rows (suc i) (suc j)) (places q n)

  unfoldable pub ar_side : ℕ → ℕ → Float
  ar_side b i = sum_where (in_block q rows b) (product_at q y rows (suc i) 0) (places q n)

  -- block b solved with the ridge, or kept; 21 with place 2 where its system is singular
  unfoldable pub new_block : ℕ → Result (List Float) Refusal
  new_block b =
      solve_or_keep 2 (p q)
      (fill_at 0 (λ e. ar_cell b (e / p q) (e % p q)) (p q * p q) (replicate 256 zero⁺))
      (fill_at 0 (ar_side b) (p q) (replicate 16 zero⁺))
      (fill_at 0 (λ l. q.ar ! (b * p q + l)) (p q) (replicate 16 zero⁺))

  -- over the first places of the old ones
  unfoldable pub new_ar : Result (List Float) Refusal
  new_ar = blocks_of (p q) q.ar_blocks new_block q.ar
