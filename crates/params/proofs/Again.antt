-- A built record passes the checks again: they read only places that are used. Assumes nothing.
use mathlib.Core.Path.{◌≡◌, ◌∙◌}
use mathlib.Core.List.{List}
use Prim.Native.Nat.{ℕ, ◌+◌, ◌*◌, ◌<◌}
use lib.Arith.{digits_lt}
use lib.ListN.{get_or-append}
use lib.Ieee.{Float, nan}
use Rattle.number.specs.Table.{◌!◌, tab, fill_at}
use Rattle.number.proofs.Sums.{sum_ext}
use Rattle.number.proofs.Table.{length_tab, get_d_tab}
use Rattle.refusal.proofs.Each.{each_ext}
use Rattle.refusal.specs.Checks.{Passed, each}
use Rattle.params.specs.declared.MsarParams.{MsarParams}
use Rattle.params.specs.Parameters.{k}
use Rattle.params.specs.Checks.{mean_check, entry_check, column_sum, column_check, ar_check, variance_check, parameter_check}
use Rattle.params.specs.Built.{tidied, tidy}
use Rattle.params.proofs.Within.{within}

-- a place that is used is kept
kept : (s n : ℕ) (l : List Float) (i : ℕ) → i < n → tidied s n l ! i ≡ l ! i
unfolding fill_at
kept s n l i h = get_or-append (tab (λ j. l ! j) n) _ nan i (rw length_tab h) ∙ get_d_tab (λ j. l ! j) n i nan h

module _ (q : MsarParams) where
  means : each (k q) (mean_check (tidy q)) ≡ each (k q) (mean_check q)
  unfolding tidy mean_check
  means = each_ext _ _ _ (λ i h. rw (kept 16 q.means_count q.means i h))

  ar : each q.ar_count (ar_check (tidy q)) ≡ each q.ar_count (ar_check q)
  unfolding tidy ar_check
  ar = each_ext _ _ _ (λ i h. rw (kept 112 q.ar_count q.ar i h))

  variances : each q.variances_count (variance_check (tidy q)) ≡ each q.variances_count (variance_check q)
  unfolding tidy variance_check
  variances = each_ext _ _ _ (λ i h. rw (kept 16 q.variances_count q.variances i h))

  module _ (square : q.transition_count ≡ k q * k q) where
    entry : (i : ℕ) → i < k q * k q → (tidy q).transition ! i ≡ q.transition ! i
    unfolding tidy
    entry i h = kept 256 q.transition_count q.transition i (rw square h)

    entries : each (k q * k q) (entry_check (tidy q)) ≡ each (k q * k q) (entry_check q)
    unfolding entry_check
    entries = each_ext _ _ _ (λ i h. rw (entry i h))

    sums : (j : ℕ) → j < k q → column_sum (tidy q) j ≡ column_sum q j
    unfolding tidy column_sum
    sums j h = sum_ext _ _ _ (λ i l. entry (i * k q + j) (digits_lt l h))

    columns : each (k q) (column_check (tidy q)) ≡ each (k q) (column_check q)
    unfolding column_check
    columns = each_ext _ _ _ (λ j h. rw (sums j h))

    same : parameter_check (tidy q) ≡ parameter_check q
    unfolding parameter_check tidy
    same = rw (means, entries, columns, ar, variances)

  pub again : parameter_check q ≡ Passed → parameter_check (tidy q) ≡ Passed
  again e = same (within q e).square ∙ e
