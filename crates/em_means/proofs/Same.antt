-- The weights of the n rows are all that counts for the new means. Assumes nothing.
use Prim.Native.Nat.{ℕ, ◌*◌, ◌/◌, ◌%◌, ◌<◌}
use mathlib.Core.Path.{◌≡◌}
use mathlib.Core.List.{List}
use lib.ListN.{replicate}
use lib.Ieee.{Float}
use Rattle.number.specs.Number.{zero⁺}
use Rattle.number.proofs.Sums.{where_ext}
use Rattle.number.proofs.Table.{fill_at_ext}
use Rattle.params.specs.declared.MsarParams.{MsarParams}
use Rattle.params.specs.Parameters.{k}
use Rattle.rows.specs.Rows.{Same, windows_of}
use Rattle.rows.specs.Smoothed.{places}
use Rattle.rows.proofs.SmoothedTable.{seen_same, precision_same}
use Rattle.em_means.specs.Means.{sensitive, means_cell, means_side, new_means}

module _ (q : MsarParams) (pos : 0 < k q) (n : ℕ) (rows rows' : ℕ → List Float) (same : (i : ℕ) → i < n → Same (windows_of q) (rows i) (rows' i)) where
  sensitive_same : (r e : ℕ) → e < places q n → sensitive q rows r e ≡ sensitive q rows' r e
  unfolding sensitive
  sensitive_same r e h = rw (seen_same q pos n rows rows' same e h)

  cell_same : (r c : ℕ) → means_cell q rows n r c ≡ means_cell q rows' n r c
  unfolding means_cell
  cell_same r c = where_ext _ _ _ _ (places q n) (sensitive_same r) (λ e h. rw (precision_same q pos n rows rows' same e h))

  side_same : (y : List Float) (r : ℕ) → means_side q rows y n r ≡ means_side q rows' y n r
  unfolding means_side
  side_same y r = where_ext _ _ _ _ (places q n) (sensitive_same r) (λ e h. rw (precision_same q pos n rows rows' same e h))

  pub new_means_same : (y : List Float) → new_means q y n rows ≡ new_means q y n rows'
  unfolding new_means
  new_means_same y =
      rw (
        fill_at_ext 0 _ (k q * k q) (replicate 256 zero⁺) (λ e. means_cell q rows' n (e / k q) (e % k q)) (λ e _. cell_same (e / k q) (e % k q)),
        fill_at_ext 0 _ (k q) (replicate 16 zero⁺) (means_side q rows' y n) (λ r _. side_same y r),
      )
