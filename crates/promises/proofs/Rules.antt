-- The rows of the two rules at order zero, computed; and that from order one up nothing of a call depends on the rule, since no prediction does.
-- Assumes nothing.
use Prim.Native.Nat.{ℕ, zero, suc, ◌-◌, ◌≤◌}
use mathlib.Core.Path.{◌≡◌, refl, sym, ap, ap₂, fun_ext, subst, ◌∙◌}
use mathlib.Core.Bool.{not}
use mathlib.Core.List.{List, []}
use lib.Ieee.{Float, add, mul, of_bits}
use Rattle.number.specs.Number.{usable}
use Rattle.number.specs.Sums.{sum_up}
use Rattle.number.specs.Table.{tab}
use Rattle.number.proofs.Sums.{sum_ext}
use Rattle.logarithm.specs.Log.{log_of}
use Rattle.window.specs.Windows.{labels, number}
use Rattle.refusal.specs.Checks.{Check, Passed, Failed, ◌when◌, ◌before◌, each, check_of}
use Rattle.refusal.specs.declared.Refusal.TheVariants.{Likelihood}
use Rattle.spec.specs.declared.MsarSpec.{MsarSpec}
use Rattle.params.specs.declared.MsarParams.{MsarParams}
use Rattle.params.specs.Parameters.{k, p}
use Rattle.stationary.specs.Stationary.{start_shares, values_of}
use Rattle.binding.specs.Binding.{filter_need, smooth_need, rule_check, admitted_check, bound_check, params_check}
use Rattle.refusal.proofs.Checks.{both}
use Rattle.binding.proofs.Passed.{same_shape}
use Rattle.rows.specs.Rows.{row_of}
use Rattle.prediction.specs.Prediction.{rule_of, mixes, later_prediction}
use Rattle.prediction.specs.declared.Rule.TheVariants.{One, Two}
use Rattle.prediction.proofs.Rules.{mixes_none}
use Rattle.filter.specs.Filter.{total, updated, predicted_row, filtered_row, likelihood, likelihood_check, loglik_to, row_count, filter_check, loglik_of, answer_after}
use Rattle.calls.specs.Calls.{Outcome, run_check, run_loglik, run_answer, called, cleared, table_of, written, filtered_table, smoothed_table, smoothed_from, loglike_memory, filter_memory, smooth_memory, loglike_call, filter_call, smooth_call}
use Rattle.smoother.specs.Smoother.{smoothed_row}
use Rattle.promises.specs.Rules as stated

pub order_zero : stated.OrderZero
unfolding row_of tab labels number later_prediction mixes sum_up add mul of_bits
order_zero = record { one = refl; two = refl }

-- ---- from order one up

module _ (q : MsarParams) (from_one : 1 ≤ p q) where
  later_same : (previous : List Float) → later_prediction One q previous ≡ later_prediction Two q previous
  unfolding later_prediction
  later_same previous = fun_ext (λ w. rw (mixes_none One (p q) from_one, mixes_none Two (p q) from_one))

  module _ (y shares : List Float) where
    predicted_same : (i : ℕ) → predicted_row One q y shares i ≡ predicted_row Two q y shares i
    unfolding predicted_row
    predicted_same zero = refl
    predicted_same (suc i) =
        ap (λ (row : List Float). row_of (k q) (p q) (later_prediction One q (updated q y i row))) (predicted_same i)
        ∙ ap (row_of (k q) (p q)) (later_same (updated q y i (predicted_row Two q y shares i)))

    filtered_same : (i : ℕ) → filtered_row One q y shares i ≡ filtered_row Two q y shares i
    unfolding filtered_row
    filtered_same i = ap (updated q y i) (predicted_same i)

    likelihood_same : (i : ℕ) → likelihood One q y shares i ≡ likelihood Two q y shares i
    unfolding likelihood
    likelihood_same i = ap (total q y i) (predicted_same i)

    check_same : filter_check One q y shares ≡ filter_check Two q y shares
    unfolding filter_check likelihood_check
    check_same = ap (each (row_count q y)) (fun_ext (λ i. ap (λ (x : Float). Likelihood i when not (usable x)) (likelihood_same i)))

    loglik_same : loglik_of One q y shares ≡ loglik_of Two q y shares
    unfolding loglik_of loglik_to
    loglik_same = sum_ext _ _ (row_count q y) (λ i _. ap log_of (likelihood_same i))

    smoothed_same : (n i : ℕ) → smoothed_from One q y shares n i ≡ smoothed_from Two q y shares n i
    smoothed_same n i =
        ap₂ (λ (predicted filtered : ℕ → List Float). smoothed_row q predicted filtered (n - 1 - i) i) (fun_ext predicted_same) (fun_ext filtered_same)

  -- what a run says and leaves
  module _ (y : List Float) where
    run_check_lem : run_check One q y ≡ run_check Two q y
    unfolding run_check
    run_check_lem = ap (λ (c : Check). (check_of (start_shares q)) before c) (check_same y (values_of (start_shares q)))

    run_answer_lem : run_answer One q y ≡ run_answer Two q y
    unfolding run_answer run_loglik
    run_answer_lem = ap₂ answer_after run_check_lem (loglik_same y (values_of (start_shares q)))

    -- a table of the same rows, left as found by the same refusals
    table_same : {rows rows' : ℕ → List Float} → rows ≡ rows' → (found : List Float)
        → written (run_check One q y) (table_of q y rows found) found ≡ written (run_check Two q y) (table_of q y rows' found) found
    table_same e found = ap₂ (λ (c : Check) (r : ℕ → List Float). written c (table_of q y r found) found) run_check_lem e

    filtered_table_lem : (found : List Float) → filtered_table One q y found ≡ filtered_table Two q y found
    unfolding filtered_table
    filtered_table_lem = table_same (fun_ext (filtered_same y (values_of (start_shares q))))

    smoothed_table_lem : (found : List Float) → smoothed_table One q y found ≡ smoothed_table Two q y found
    unfolding smoothed_table
    smoothed_table_lem = table_same (fun_ext (smoothed_same y (values_of (start_shares q)) (row_count q y)))

-- ---- of a call: its checks take both rules, and where they passed the parameters have the spec's order

unless_refused : (c : Check) (work filtered smoothed : List Float) {run run' : Outcome} → (c ≡ Passed → run ≡ run')
    → called c work filtered smoothed run ≡ called c work filtered smoothed run'
unless_refused Passed work filtered smoothed e = e refl
unless_refused (Failed r) work filtered smoothed e = refl

module _ (S : MsarSpec) (y : List Float) (q : MsarParams) (from_one : 1 ≤ S.order) where
  params_pass : (own : Check) → admitted_check S y own q ≡ Passed → params_check S q ≡ Passed
  unfolding admitted_check
  params_pass own d = (both own (both (bound_check S y) d).1).1

  -- whatever the call checks of its own
  called_same : (own : Check) (work filtered smoothed : List Float) {run run' : Outcome} → (1 ≤ p q → run ≡ run')
      → called (admitted_check S y own q) work filtered smoothed run ≡ called (admitted_check S y own q) work filtered smoothed run'
  called_same own work filtered smoothed e =
      unless_refused (admitted_check S y own q) work filtered smoothed
      (λ d. e (subst (λ (n : ℕ). 1 ≤ n) (sym (same_shape S q (params_pass own d)).1) from_one))

  loglike_same : (work : List Float) → loglike_call S y q 1 work ≡ loglike_call S y q 2 work
  unfolding loglike_call rule_check rule_of
  loglike_same work =
      called_same (loglike_memory S y work before rule_check 1) work [] []
      (λ h i. record { answer = run_answer_lem q h y i; work = cleared (filter_need S y) work; filtered = []; smoothed = [] })

  filter_same : (work filtered : List Float) → filter_call S y q 1 work filtered ≡ filter_call S y q 2 work filtered
  unfolding filter_call rule_check rule_of
  filter_same work filtered =
      called_same (filter_memory S y work filtered before rule_check 1) work filtered []
      (λ h i. record { answer = run_answer_lem q h y i; work = cleared (filter_need S y) work; filtered = filtered_table_lem q h y filtered i; smoothed = [] })

  smooth_same : (work filtered smoothed : List Float) → smooth_call S y q 1 work filtered smoothed ≡ smooth_call S y q 2 work filtered smoothed
  unfolding smooth_call rule_check rule_of
  smooth_same work filtered smoothed =
      called_same (smooth_memory S y work filtered smoothed before rule_check 1) work filtered smoothed
      (λ h i. record {
        answer = run_answer_lem q h y i;
        work = cleared (smooth_need S y) work;
        filtered = filtered_table_lem q h y filtered i;
        smoothed = smoothed_table_lem q h y smoothed i;
      })

pub agree : stated.Agree
agree =
    record {
      loglike = λ S y q work h. loglike_same S y q h work;
      filter = λ S y q work filtered h. filter_same S y q h work filtered;
      smooth = λ S y q work filtered smoothed h. smooth_same S y q h work filtered smoothed;
    }
