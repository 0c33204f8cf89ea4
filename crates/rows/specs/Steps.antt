-- What the steps of the code give, by window number: the windows with label i now are i, i + k, i + 2·k, .. The proofs show that these sums are the
-- probabilities of the labels. Which rows are kept in memory. And what the steps of the EM step keep: arrays of sums over the places of the smoothed
-- table.
use Rattle.std.specs.Prelude.{ℕ, ◌+◌, ◌*◌, ◌/◌, ◌%◌, Bool, ◌&&◌, List, drop, Float, if◌then◌else◌}
use Rattle.std.specs.Float.Ieee.{ne}
use Rattle.number.specs.Number.{◌<?◌, ◌=?◌, ◌⊘◌, zero⁺}
use Rattle.number.specs.Sums.{sum_up, sum_where}
use Rattle.number.specs.Table.{◌!◌, fill_at}
use Rattle.params.specs.Parameters.{block_of}
use Rattle.rows.specs.Memory.{filtered_from}

-- power is k^p, the count of windows with one label now
unfoldable pub label_sum : ℕ → ℕ → List Float → ℕ → Float
label_sum k power row i = sum_up (λ j. row ! (i + j * k)) power

-- place e of the results of the rows that stand in work memory
unfoldable pub label_sum_at : ℕ → ℕ → ℕ → List Float → ℕ → Float
label_sum_at k power m work e = label_sum k power (drop (filtered_from m (e / k)) work) (e % k)

-- work memory after a row is stored as row j, where the first `kept` rows have a place there
unfoldable pub stored : ℕ → ℕ → ℕ → List Float → List Float → List Float
stored m kept j row work = if j <? kept then fill_at (j * m) (λ a. row ! a) m work else work

-- cell c before place e: the sum of f c over those places at which the test t c holds
unfoldable pub cell_at : (ℕ → ℕ → Bool) → (ℕ → ℕ → Float) → ℕ → ℕ → Float
cell_at t f e c = sum_where (t c) (f c) e

-- ---- by place of work memory, whose label now is e % k

-- a place that is seen and counts for block b: what is counted once is shared by all labels
unfoldable pub counts_for : ℕ → ℕ → List Float → ℕ → ℕ → Bool
counts_for k count work b e = ne (work ! e) zero⁺ && block_of count (e % k) =? b

-- smoothed weight over variance; the variances are by label
unfoldable pub precision_in : ℕ → List Float → List Float → ℕ → Float
precision_in k variances work e = work ! e ⊘ variances ! (e % k)
