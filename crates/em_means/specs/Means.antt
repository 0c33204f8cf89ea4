-- The new means: a residual is d + Σ_r α_r μ[r] with d = y_t - Σ_l φ_l y_(t-l), so that (Σ g/σ² α α') μ = - Σ g/σ² d α.
-- After Kim and Nelson (1999), 4.3, and document 01, "EM step"; model.rs, `update_means`.
use Rattle.std.specs.Prelude.{ℕ, zero, suc, ◌-◌, ◌*◌, ◌/◌, ◌%◌, Bool, ◌&&◌, List, replicate, Float, Result, if◌then◌else◌}
use Rattle.std.specs.Float.Ieee.{neg, ne}
use Rattle.number.specs.Number.{◌=?◌, ◌⊕◌, ◌⊖◌, ◌⊗◌, zero⁺, one}
use Rattle.number.specs.Sums.{sum_where}
use Rattle.number.specs.Table.{◌!◌, fill_at}
use Rattle.refusal.specs.declared.Refusal.{Refusal}
use Rattle.params.specs.declared.MsarParams.{MsarParams}
use Rattle.params.specs.Parameters.{k, p, φ}
use Rattle.rows.specs.Smoothed.{places, label_at, time_at, seen, precision}
use Rattle.em_ridge.specs.Ridge.{solve_or_keep}

module _ (q : MsarParams) where
  -- d at place e with its first l lags
  unfoldable pub d_to : List Float → ℕ → ℕ → Float
  d_to y e zero = y ! (time_at q e).0
  d_to y e (suc l) = d_to y e l ⊖ φ q (label_at q e 0) (suc l) ⊗ y ! ((time_at q e).0 - suc l)

  -- the sensitivity α_r at place e with its first l lags: -1 where s_0 is r, and φ_l for each s_l that is r
  unfoldable pub αTo : ℕ → ℕ → ℕ → Float
  αTo e r zero = if label_at q e 0 =? r then neg one else zero⁺
  αTo e r (suc l) = if label_at q e (suc l) =? r then αTo e r l ⊕ φ q (label_at q e 0) (suc l) else αTo e r l

  abbrev pub α : ℕ → ℕ → Float
  α e r = αTo e r (p q)

module _ (q : MsarParams) (rows : ℕ → List Float) where
  -- a label whose sensitivity is zero is skipped, as a window of weight zero is
  unfoldable pub sensitive : ℕ → ℕ → Bool
  sensitive r e = seen q rows e && ne (α q e r) zero⁺

  -- over the n rows
  unfoldable pub means_cell : ℕ → ℕ → ℕ → Float
  means_cell n r c = sum_where (sensitive r) (λ e. precision q rows e ⊗ α q e r ⊗ α q e c) (places q n)

  -- the Rust subtracts each term
  unfoldable pub means_side : List Float → ℕ → ℕ → Float
  means_side y n r = sum_where (sensitive r) (λ e. neg (precision q rows e ⊗ d_to q y e (p q) ⊗ α q e r)) (places q n)

-- 21 with place 1 where the system is singular
unfoldable pub new_means : MsarParams → List Float → ℕ → (ℕ → List Float) → Result (List Float) Refusal
new_means q y n rows =
    solve_or_keep 1 (k q)
    (fill_at 0 (λ e. means_cell q rows n (e / k q) (e % k q)) (k q * k q) (replicate 256 zero⁺))
    (fill_at 0 (means_side q rows y n) (k q) (replicate 16 zero⁺))
    q.means
