-- The smoother: for each row the weights of the windows given the whole series, from the last row back to the first.
-- After Kim (1994), equation 10, Kim and Nelson (1999), and document 01, "Smoother".
use Rattle.std.specs.Prelude.{ℕ, zero, suc, Bool, List, Float}
use Rattle.std.specs.Float.Ieee.{lt}
use Rattle.number.specs.Number.{◌⊗◌, ◌⊘◌, zero⁺}
use Rattle.number.specs.Sums.{sum_where}
use Rattle.window.specs.Windows.{label, successor}
use Rattle.params.specs.declared.MsarParams.{MsarParams}
use Rattle.params.specs.Parameters.{k, p, P}
use Rattle.rows.specs.Rows.{entry, row_of}

-- ---- a window w, by its filtered weight and the next row's smoothed and predicted weights

module _ (q : MsarParams) (smoothed predicted : List Float) (w : List ℕ) where
  -- through the successor b with label r now: smoothed[b] · P[r][s_0] / predicted[b]
  unfoldable pub through : ℕ → Float
  through r = entry (k q) smoothed (successor (p q) w r) ⊗ P q r (label w 0) ⊘ entry (k q) predicted (successor (p q) w r)

  -- a successor whose prediction is not above zero is skipped
  unfoldable pub foreseen : ℕ → Bool
  foreseen r = lt zero⁺ (entry (k q) predicted (successor (p q) w r))

  -- the filtered weight times the sum over the successors
  unfoldable pub smoothed_weight : List Float → Float
  smoothed_weight filtered = entry (k q) filtered w ⊗ sum_where foreseen through (k q)

-- ---- row i where d rows follow it, by all predicted and filtered rows: the last is the filtered one

module _ (q : MsarParams) (predicted filtered : ℕ → List Float) where
  unfoldable pub smoothed_row : ℕ → ℕ → List Float
  smoothed_row zero i = filtered i
  smoothed_row (suc d) i = row_of (k q) (p q) (λ w. smoothed_weight q (smoothed_row d (suc i)) (predicted (suc i)) w (filtered i))
