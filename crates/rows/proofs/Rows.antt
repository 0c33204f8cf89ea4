-- Rows and the probabilities that they give: what stands at a place of a row, and that only the first m places count. Assumes nothing.
use Prim.Native.Nat.{ℕ, suc, ◌+◌, ◌*◌, ◌/◌, ◌%◌, ◌^◌, ◌<◌}
use mathlib.Core.Path.{◌≡◌, ◌∙◌}
use mathlib.Core.List.{List}
use native.Mathlib.Nat.{pow-suc, mod-lt, div-lt_iff_lt-mul}
use native.Mathlib.Omega.{arith}
use lib.Arith.{digits_lt}
use lib.ListN.{drop}
use lib.Ieee.{Float, nan}
use Rattle.number.specs.Table.{◌!◌}
use Rattle.number.proofs.Sums.{sum_ext}
use Rattle.number.proofs.Table.{get_d_tab}
use Rattle.window.specs.Windows.{number, labels}
use Rattle.window.proofs.Windows.{number_labels}
use Rattle.rows.specs.Rows.{row_of, probability, result_at, Same}
use Rattle.rows.specs.Memory.{filtered_from}
use Rattle.rows.specs.Steps.{label_sum, label_sum_at}

pub row_at : (k p : ℕ) (f : List ℕ → Float) (a : ℕ) → a < k ^ suc p → row_of k p f ! a ≡ f (labels k (suc p) a)
unfolding row_of
row_at k p f a h = get_d_tab (λ b. f (labels k (suc p) b)) (k ^ suc p) a nan h

module _ (k p : ℕ) (pos : 0 < k) where
  -- the windows with label i now are i, i + k, i + 2·k, ..
  pub label_sum_is : (row : List Float) (i : ℕ) → label_sum k (k ^ p) row i ≡ probability k p row i
  unfolding label_sum probability number
  label_sum_is row i = sum_ext _ _ (k ^ p) (λ a h. rw (number_labels k pos p a h))

  pub label_sum_same : (row row' : List Float) → Same (k ^ suc p) row row' → (i : ℕ) → i < k → label_sum k (k ^ p) row i ≡ label_sum k (k ^ p) row' i
  unfolding label_sum
  label_sum_same row row' same i h =
      sum_ext _ _ (k ^ p) (λ j l. same (i + j * k) (let d = digits_lt l h in let e : k ^ suc p ≡ k ^ p * k = pow-suc k p in omega arith))

  -- the results of rows that stand in work memory
  pub tabulated : (m : ℕ) (work : List Float) (rows : ℕ → List Float) (n : ℕ) → m ≡ k ^ suc p
      → ((i : ℕ) → i < n → Same m (drop (filtered_from m i) work) (rows i))
      → (e : ℕ) → e < n * k → label_sum_at k (k ^ p) m work e ≡ result_at k p rows e
  unfolding label_sum_at result_at
  tabulated m work rows n w same e h =
      let l : e / k < n = (div-lt_iff_lt-mul pos).1 h in
      label_sum_same _ _ (λ a g. same (e / k) l a (rw w g)) (e % k) (mod-lt e pos) ∙ label_sum_is (rows (e / k)) (e % k)
