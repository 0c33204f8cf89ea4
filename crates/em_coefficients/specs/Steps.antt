-- What the steps of the code give, of parts that are lent one by one: distances by lag and label, sums by place of work memory, and the blocks that they
-- give. The proofs show that they are those of the definition.
use Rattle.std.specs.Prelude.{ℕ, suc, ◌+◌, ◌-◌, ◌*◌, ◌/◌, ◌%◌, ◌≡◌, List, replicate, Float, Result}
use Rattle.number.specs.Number.{◌⊕◌, ◌⊖◌, ◌⊗◌, zero⁺}
use Rattle.number.specs.Table.{◌!◌, fill_at}
use Rattle.window.specs.Windows.{label, labels}
use Rattle.window.specs.declared.Time.{Time}
use Rattle.refusal.specs.declared.Refusal.{Refusal}
use Rattle.params.specs.declared.MsarParams.{MsarParams}
use Rattle.rows.specs.Steps.{cell_at, counts_for, precision_in}
use Rattle.rows.specs.declared.smoothed.Smoothed.{Smoothed}
use Rattle.em_ridge.specs.Ridge.{solve_or_keep}
use Rattle.em_coefficients.specs.declared.Equations.{Equations}

-- y[t-l] - μ[s] at time t by lag and label, at place l·k + s
unfoldable pub distance_by : ℕ → List Float → Time → List Float → ℕ → Float
distance_by k y t means e = y ! (t.0 - e / k) ⊖ means ! (e % k)

-- x_l of window a: what stands there for the label s_l
unfoldable pub distance_of : ℕ → ℕ → List Float → ℕ → ℕ → Float
distance_of k p distances a l = distances ! (l * k + label (labels k (suc p) a) l)

-- what a window of weight w and distances x adds to place c of its block's table, and to place l of its right-hand side
unfoldable pub table_term : ℕ → Float → (ℕ → Float) → ℕ → Float
table_term p w x c = w ⊗ x (suc (c / p)) ⊗ x (suc (c % p))

unfoldable pub side_term : Float → (ℕ → Float) → ℕ → Float
side_term w x l = w ⊗ x (suc l) ⊗ x 0

-- the n places of block b with f added
unfoldable pub added_to : ℕ → ℕ → (ℕ → Float) → List Float → List Float
added_to b n f l = fill_at (b * n) (λ c. l ! (b * n + c) ⊕ f c) n l

-- x_l at place e: of window e % m of row e / m
unfoldable pub distance_in : ℕ → ℕ → ℕ → List Float → List Float → ℕ → ℕ → Float
distance_in k order m y means e l = y ! (order + e / m - l) ⊖ means ! label (labels k (suc order) (e % m)) l

-- what a place a of weight w a and distances x a adds to cell c of the tables of all blocks, and of their sides
unfoldable pub row_table : ℕ → (ℕ → Float) → (ℕ → ℕ → Float) → ℕ → ℕ → Float
row_table p w x c a = table_term p (w a) (x a) (c % (p * p))

unfoldable pub row_side : ℕ → (ℕ → Float) → (ℕ → ℕ → Float) → ℕ → ℕ → Float
row_side p w x c a = side_term (w a) (x a) (c % p)

-- the sums over all places before e, for each block
pub record Summed (k p blocks : ℕ) (work : List Float) (w : ℕ → Float) (x : ℕ → ℕ → Float) (e : ℕ) (tables sides : List Float) : Type 0 where
  pub tabled : tables ≡ fill_at 0 (cell_at (λ c. counts_for k blocks work (c / (p * p))) (row_table p w x) e) 784 (replicate 784 zero⁺)
  pub sided : sides ≡ fill_at 0 (cell_at (λ c. counts_for k blocks work (c / p)) (row_side p w x) e) 112 (replicate 112 zero⁺)

-- the same over the windows of the rows before row i, of which the code reads these; the variances are by label
abbrev pub RowsSummed : MsarParams → List Float → Smoothed → ℕ → Equations → Type 0
RowsSummed q variances s i equations =
    Summed s.sizes.k s.sizes.order q.ar_blocks s.work.now (precision_in s.sizes.k variances s.work.now) (distance_in s.sizes.k s.sizes.order s.sizes.windows s.y.now q.means) (i * s.sizes.windows)
    equations.tables equations.sides

-- block b of the tables and sides, solved
unfoldable pub block_from : ℕ → List Float → List Float → List Float → ℕ → Result (List Float) Refusal
block_from p tables sides ar b =
    solve_or_keep 2 p
    (fill_at 0 (λ e. tables ! (b * (p * p) + e)) (p * p) (replicate 256 zero⁺))
    (fill_at 0 (λ l. sides ! (b * p + l)) p (replicate 16 zero⁺))
    (fill_at 0 (λ l. ar ! (b * p + l)) p (replicate 16 zero⁺))
