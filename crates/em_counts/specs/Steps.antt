-- What the steps of the code give. Where the order is at least 1, the labels run round through the whole table: place e has the label e % k now and
-- e / k % k before. Cell c of the counts is that of label c / k after label c % k.
use Rattle.std.specs.Prelude.{ℕ, ◌*◌, ◌/◌, ◌%◌, ◌≡◌, Bool, ◌&&◌, List, replicate, Float, if◌then◌else◌}
use Rattle.std.specs.Float.Ieee.{le}
use Rattle.number.specs.Number.{◌=?◌, ◌⊘◌, zero⁺}
use Rattle.number.specs.Table.{◌!◌, fill_at}
use Rattle.rows.specs.Steps.{cell_at}

unfoldable pub is_step : ℕ → ℕ → ℕ → Bool
is_step k c e = e % k =? c / k && e / k % k =? c % k

unfoldable pub is_before : ℕ → ℕ → ℕ → Bool
is_before k j e = e / k % k =? j

-- all places before e are counted; place e of the smoothed table is place e of work memory
pub record Counted (k : ℕ) (work : List Float) (e : ℕ) (counts columns : List Float) : Type 0 where
  pub cells : counts ≡ fill_at 0 (cell_at (is_step k) (λ _ x. work ! x) e) (k * k) (replicate 256 zero⁺)
  pub sums : columns ≡ fill_at 0 (cell_at (is_before k) (λ _ x. work ! x) e) k (replicate 16 zero⁺)

-- cell e of the new table
unfoldable pub divided_at : ℕ → List Float → List Float → List Float → ℕ → Float
divided_at k transition counts columns e =
    if le (columns ! (e % k)) zero⁺ then (transition ! e) else (counts ! e ⊘ columns ! (e % k))

-- all cells, by the places before e of work memory
unfoldable pub transition_by : ℕ → List Float → ℕ → List Float → List Float
transition_by k transition e work =
    let counts = fill_at 0 (cell_at (is_step k) (λ _ x. work ! x) e) (k * k) (replicate 256 zero⁺) in
    let columns = fill_at 0 (cell_at (is_before k) (λ _ x. work ! x) e) k (replicate 16 zero⁺) in
    fill_at 0 (divided_at k transition counts columns) (k * k) (replicate 256 zero⁺)
