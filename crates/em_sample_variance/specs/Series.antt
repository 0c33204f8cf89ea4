-- The sample mean and variance of a series of T readings: about the mean, divided by T.
-- After document 01, "EM step" (the floor) and refusal 25; model.rs, `y_var`.
use Rattle.std.specs.Prelude.{ℕ, List, length, pos, Float}
use Rattle.std.specs.Float.{binary64}
use Rattle.std.specs.Float.Ieee.{of_int}
use Rattle.number.specs.Number.{◌⊖◌, ◌⊗◌, ◌⊘◌}
use Rattle.number.specs.Sums.{sum_up}
use Rattle.number.specs.Table.{◌!◌}

-- T as a binary64
abbrev pub readings : List Float → Float
readings y = of_int binary64 (pos (length y))

unfoldable pub sample_mean : List Float → Float
sample_mean y = sum_up (λ i. y ! i) (length y) ⊘ readings y

-- the square of a reading's distance from a mean
unfoldable pub square_at : List Float → Float → ℕ → Float
square_at y mean i = (y ! i ⊖ mean) ⊗ (y ! i ⊖ mean)

unfoldable pub sample_variance : List Float → Float
sample_variance y = sum_up (square_at y (sample_mean y)) (length y) ⊘ readings y
