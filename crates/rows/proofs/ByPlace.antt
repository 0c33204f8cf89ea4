-- The smoothed rows in work memory by place: the label now of place e, what it counts for and its precision. Assumes nothing.
use Prim.Native.Nat.{ℕ, suc, ◌+◌, ◌*◌, ◌%◌, ◌^◌, ◌<◌}
use mathlib.Core.Path.{◌≡◌, ◌∙◌}
use mathlib.Core.Bool.{◌&&◌}
use mathlib.Core.List.{List}
use native.Mathlib.Nat.{pow-suc, mul_assoc, mul-add-mod_self_right}
use native.Mathlib.Omega.{arith}
use lib.ListN.{take, drop}
use lib.Ieee.{Float, nan}
use Rattle.std.proofs.lemmas.List.{get_or-take, get_or-drop}
use Rattle.number.specs.Number.{◌=?◌, ◌⊘◌}
use Rattle.number.specs.Table.{◌!◌}
use Rattle.window.specs.Windows.{labels, label}
use Rattle.window.proofs.Windows.{label_cut}
use Rattle.params.specs.declared.MsarParams.{MsarParams}
use Rattle.params.specs.Parameters.{k, p, block_of, variance}
use Rattle.rows.specs.Smoothed.{rows_in, label_at, seen, precision}
use Rattle.rows.specs.Steps.{counts_for, precision_in}
use Rattle.rows.proofs.SmoothedTable.{weight_in_memory}

-- window a of row i has the label now of its place
pub row_label : (k order m i a : ℕ) → m ≡ k ^ suc order → (i * m + a) % k ≡ a % k
row_label k order m i a w =
    let whole : i * m ≡ i * k ^ order * k = rw (w, pow-suc k order, mul_assoc) in
    rw whole (mul-add-mod_self_right (i * k ^ order) k a)

-- the precision of a place whose label now is s
pub precision_there : (k : ℕ) (variances work : List Float) (e s : ℕ) → e % k ≡ s → work ! e ⊘ variances ! s ≡ precision_in k variances work e
unfolding precision_in
precision_there k variances work e s now = rw now

-- the weight of window a of a row whose m weights stand from place `from` on
pub weight_there : (work : List Float) (from m a : ℕ) {weights : List Float} → weights ≡ take m (drop from work) → a < m → weights ! a ≡ work ! (from + a)
weight_there work from m a e h = rw e (get_or-take m (drop from work) a nan h ∙ get_or-drop from work a nan)

module _ (q : MsarParams) (pos : 0 < k q) (e : ℕ) where
  -- labels run round through all rows
  pub label_runs : (l : ℕ) → l < suc (p q) → label_at q e l ≡ label (labels (k q) (suc (p q)) e) l
  label_runs l h = label_cut (k q) pos (suc (p q)) (p q) e l (omega arith)

  pub label_now : label_at q e 0 ≡ e % k q
  unfolding labels
  label_now = label_runs 0 (omega arith)

  module _ (work : List Float) where
    pub counts_in : (count b : ℕ) → counts_for (k q) count work b e ≡ (seen q (rows_in q work) e && block_of count (label_at q e 0) =? b)
    unfolding counts_for
    counts_in count b = rw (weight_in_memory q work e, label_now)

    pub precision_in_lem : (variances : List Float) → variances ! (e % k q) ≡ variance q (e % k q) → precision_in (k q) variances work e ≡ precision q (rows_in q work) e
    unfolding precision_in
    precision_in_lem variances d = rw (weight_in_memory q work e, label_now, d)
