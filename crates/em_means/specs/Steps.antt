-- What the steps of the code give, of parts that are lent one by one: rows made once a row or a window, and sums by place of work memory. The proofs show
-- that they are the definition's.
use Rattle.std.specs.Prelude.{ℕ, zero, suc, ◌+◌, ◌-◌, ◌*◌, ◌/◌, ◌%◌, ◌^◌, ◌≡◌, Bool, ◌&&◌, List, replicate, Float, if◌then◌else◌}
use Rattle.std.specs.Float.Ieee.{neg, ne}
use Rattle.number.specs.Number.{◌=?◌, ◌⊕◌, ◌⊖◌, ◌⊗◌, ◌⊘◌, zero⁺, one}
use Rattle.number.specs.Table.{◌!◌, fill_at}
use Rattle.rows.specs.Steps.{cell_at, precision_in}
use Rattle.rows.specs.declared.smoothed.Smoothed.{Smoothed}
use Rattle.em_means.specs.declared.Equations.{Equations}

-- ---- by place, or window number, and label; phis has φ_(l+1) of label s at place l · k + s

-- the sensitivity to the mean of label r at place a, with its first l lags
unfoldable pub sensitivity_to : ℕ → List Float → ℕ → ℕ → ℕ → Float
sensitivity_to k phis a r zero = if a % k =? r then neg one else zero⁺
sensitivity_to k phis a r (suc l) =
    if a / k ^ suc l % k =? r then sensitivity_to k phis a r l ⊕ phis ! (l * k + a % k) else sensitivity_to k phis a r l

-- the same for each label, with all its lags
unfoldable pub sensitivities_of : ℕ → ℕ → List Float → ℕ → List Float
sensitivities_of k order phis a = fill_at 0 (λ r. sensitivity_to k phis a r order) k (replicate 16 zero⁺)

-- d for the reading at time t under label s, with its first l lags
unfoldable pub less_lags_to : ℕ → List Float → List Float → ℕ → ℕ → ℕ → Float
less_lags_to k phis y t s zero = y ! t
less_lags_to k phis y t s (suc l) = less_lags_to k phis y t s l ⊖ phis ! (l * k + s) ⊗ y ! (t - suc l)

-- the same with all its lags
unfoldable pub less_lags_at : ℕ → ℕ → List Float → List Float → ℕ → ℕ → Float
less_lags_at k order phis y t s = less_lags_to k phis y t s order

-- that at place e, of row e / m
unfoldable pub less_lags_in : ℕ → ℕ → ℕ → List Float → List Float → ℕ → Float
less_lags_in k order m phis y e = less_lags_to k phis y (order + e / m) (e % k) order

-- ---- one window added, whose sensitivities are `row`

module _ (row : List Float) (k : ℕ) (gw : Float) where
  -- place x of the table, row x / k and column x % k
  unfoldable pub cell_added : List Float → ℕ → Float
  cell_added mat x =
      if ne (row ! (x / k)) zero⁺
      then mat ! x ⊕ gw ⊗ row ! (x / k) ⊗ row ! (x % k)
      else (mat ! x)

  unfoldable pub side_added : Float → List Float → ℕ → Float
  side_added d rhs r = if ne (row ! r) zero⁺ then rhs ! r ⊖ gw ⊗ d ⊗ row ! r else (rhs ! r)

-- the same for a window of weight g, which is skipped where g is zero
unfoldable pub cell_seen : List Float → ℕ → Float → Float → List Float → ℕ → Float
cell_seen row k v g mat x = if ne g zero⁺ then cell_added row k (g ⊘ v) mat x else (mat ! x)

unfoldable pub side_seen : List Float → ℕ → Float → Float → Float → List Float → ℕ → Float
side_seen row k v g d rhs r = if ne g zero⁺ then side_added row k (g ⊘ v) d rhs r else (rhs ! r)

-- ---- the sums over all places before e; w has the precisions by place, d what is left of the readings

-- place e counts for label r
unfoldable pub felt : ℕ → ℕ → List Float → List Float → ℕ → ℕ → Bool
felt k order phis work r e = ne (work ! e) zero⁺ && ne (sensitivity_to k phis e r order) zero⁺

unfoldable pub cell_term : ℕ → ℕ → List Float → (ℕ → Float) → ℕ → ℕ → Float
cell_term k order phis w x e = w e ⊗ sensitivity_to k phis e (x / k) order ⊗ sensitivity_to k phis e (x % k) order

unfoldable pub side_term : ℕ → ℕ → List Float → (ℕ → Float) → (ℕ → Float) → ℕ → ℕ → Float
side_term k order phis w d r e = neg (w e ⊗ d e ⊗ sensitivity_to k phis e r order)

-- of the smoothed rows s all places before e are summed; phis and variances are by label
module _ (s : Smoothed) (phis variances : List Float) where
  abbrev pub felt_in : ℕ → ℕ → Bool
  felt_in = felt s.sizes.k s.sizes.order phis s.work.now

  abbrev pub cell_in : ℕ → ℕ → Float
  cell_in = cell_term s.sizes.k s.sizes.order phis (precision_in s.sizes.k variances s.work.now)

  abbrev pub side_in : ℕ → ℕ → Float
  side_in =
      side_term s.sizes.k s.sizes.order phis (precision_in s.sizes.k variances s.work.now) (less_lags_in s.sizes.k s.sizes.order s.sizes.windows phis s.y.now)

  pub record Summed (e : ℕ) (sums : Equations) : Type 0 where
    pub cells : sums.table ≡ fill_at 0 (cell_at (λ x. felt_in (x / s.sizes.k)) cell_in e) (s.sizes.k * s.sizes.k) (replicate 256 zero⁺)
    pub sides : sums.side ≡ fill_at 0 (cell_at felt_in side_in e) s.sizes.k (replicate 16 zero⁺)

  -- the same over the windows of the rows before row i
  abbrev pub RowsSummed : ℕ → Equations → Type 0
  RowsSummed i = Summed (i * s.sizes.windows)
