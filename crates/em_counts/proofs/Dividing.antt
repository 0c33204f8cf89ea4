-- The new table: cells divided by their columns, and that these are the definition's. Assumes nothing.
use Prim.Native.Nat.{ℕ, suc, ◌*◌, ◌/◌, ◌%◌, ◌^◌, ◌<◌}
use mathlib.Core.Path.{◌≡◌, refl, sym, ◌∙◌}
use mathlib.Core.Bool.{true, false}
use mathlib.Core.List.{List}
use native.Mathlib.Nat.{pow-suc, pow-zero, one-mul, mod-lt, div-add-mod', mul_assoc}
use native.Mathlib.Omega.{arith}
use lib.ListN.{replicate}
use lib.Ieee.{Float, le}
use Rattle.number.specs.Number.{◌⊘◌, zero⁺}
use Rattle.number.specs.Table.{◌!◌, fill_at}
use Rattle.number.proofs.Sums.{where_ext}
use Rattle.number.proofs.Table.{fill_at_lem, fill_at_ext}
use Rattle.window.proofs.Windows.{label_labels}
use Rattle.params.specs.declared.MsarParams.{MsarParams}
use Rattle.params.specs.Parameters.{k, p}
use Rattle.rows.specs.Rows.{Same, windows_of}
use Rattle.rows.specs.Smoothed.{rows_in, places, label_at}
use Rattle.rows.specs.Steps.{cell_at}
use Rattle.rows.proofs.ByPlace.{label_runs, label_now}
use Rattle.rows.proofs.SmoothedTable.{weight_same, weight_in_memory}
use Rattle.em_counts.specs.Counts.{count, column_count, new_step, new_transition}
use Rattle.em_counts.specs.Steps.{is_step, is_before, Counted, divided_at, transition_by}

-- ---- one cell

module _ (k : ℕ) (transition counts columns : List Float) (e : ℕ) {j : ℕ} (d : j ≡ e % k) where
  pub kept : le (columns ! j) zero⁺ ≡ true → transition ! e ≡ divided_at k transition counts columns e
  unfolding divided_at
  kept t = rw (← d, t)

  pub quotient : le (columns ! j) zero⁺ ≡ false → counts ! e ⊘ columns ! j ≡ divided_at k transition counts columns e
  unfolding divided_at
  quotient t = rw (← d, t)

-- ---- all cells

pub table_by : (k e : ℕ) (transition work : List Float) {counts columns r : List Float} → Counted k work e counts columns
    → r ≡ fill_at 0 (divided_at k transition counts columns) (k * k) (replicate 256 zero⁺) → r ≡ transition_by k transition e work
unfolding transition_by
table_by k e transition work C d = d ∙ rw (C.cells, C.sums)

module _ (q : MsarParams) (pos : 0 < k q) (later : 0 < p q) (n : ℕ) (work : List Float) where
  abbrev rows : ℕ → List Float
  rows = rows_in q work

  before_is : (e : ℕ) → label_at q e 1 ≡ e / k q % k q
  before_is e = label_runs q pos e 1 (omega arith) ∙ label_labels (k q) (suc (p q)) e 1 (omega arith) ∙ rw (pow-suc (k q) 0, pow-zero, one-mul)

  module _ {counts columns : List Float} (C : Counted (k q) work (places q n) counts columns) where
    count_is : (e : ℕ) → e < k q * k q → counts ! e ≡ count q n rows (e / k q) (e % k q)
    unfolding count cell_at is_step
    count_is e h =
        fill_at_lem _ (k q * k q) (replicate 256 zero⁺) C.cells e h
        ∙ where_ext _ _ _ _ (places q n) (λ x _. rw (label_now q pos x, before_is x)) (λ x _. sym (weight_in_memory q work x))

    column_is : (j : ℕ) → j < k q → columns ! j ≡ column_count q n rows j
    unfolding column_count cell_at is_before
    column_is j h =
        fill_at_lem _ (k q) (replicate 16 zero⁺) C.sums j h
        ∙ where_ext _ _ _ _ (places q n) (λ x _. rw (before_is x)) (λ x _. sym (weight_in_memory q work x))

    step_is : (e : ℕ) → e < k q * k q → divided_at (k q) q.transition counts columns e ≡ new_step q n rows (e / k q) (e % k q)
    unfolding divided_at new_step
    step_is e h = rw (column_is (e % k q) (mod-lt e pos), count_is e h, div-add-mod' e (k q))

  -- power is k^p: the places of n rows
  pub transition_is : {power : ℕ} → power ≡ k q ^ p q → transition_by (k q) q.transition (n * power * k q) work ≡ new_transition q n (rows_in q work)
  unfolding new_transition transition_by
  transition_is e =
      let all : n * k q ^ p q * k q ≡ places q n = rw (pow-suc, mul_assoc) in
      rw (e, all) (fill_at_ext 0 _ (k q * k q) (replicate 256 zero⁺) _ (step_is (record { cells = refl; sums = refl })))

-- ---- two tables with the same weights in n rows give the same

module _ (q : MsarParams) (pos : 0 < k q) (n : ℕ) (rows rows' : ℕ → List Float) (same : (i : ℕ) → i < n → Same (windows_of q) (rows i) (rows' i)) where
  count_same : (i j : ℕ) → count q n rows i j ≡ count q n rows' i j
  unfolding count
  count_same i j = where_ext _ _ _ _ (places q n) (λ _ _. refl) (weight_same q pos n rows rows' same)

  column_same : (j : ℕ) → column_count q n rows j ≡ column_count q n rows' j
  unfolding column_count
  column_same j = where_ext _ _ _ _ (places q n) (λ _ _. refl) (weight_same q pos n rows rows' same)

  pub transition_same : new_transition q n rows ≡ new_transition q n rows'
  unfolding new_transition new_step
  transition_same = fill_at_ext 0 _ (k q * k q) (replicate 256 zero⁺) _ (λ e _. rw (column_same (e % k q), count_same (e / k q) (e % k q)))
