-- Demand 3 of the tables that the calls write: a call that answers was admitted and its run passed, so that the table has the filter's rows.
-- Assumes nothing.
use Rattle.std.specs.Prelude.{Result, Ok, Err}
use mathlib.Core.Path.{◌≡◌, refl, sym, ap, ap₂, subst, ◌∙◌}
use mathlib.Core.List.{List, []}
use Prim.Native.Nat.{ℕ, ◌+◌, ◌*◌, ◌<◌}
use lib.Arith.{digits_lt, digits_div, digits_mod}
use lib.ListN.{get_or}
use lib.Ieee.{Float}
use Rattle.number.specs.Table.{◌!◌, cell}
use Rattle.number.proofs.Table.{fill_at_lem}
use Rattle.window.specs.Shape.{Shape}
use Rattle.refusal.specs.declared.Refusal.{Refusal}
use Rattle.refusal.specs.Checks.{Check, Passed, Failed, check_of}
use Rattle.refusal.proofs.Checks.{both}
use Rattle.refusal.proofs.Numbers.{number_above}
use Rattle.spec.specs.declared.MsarSpec.{MsarSpec}
use Rattle.params.specs.declared.MsarParams.{MsarParams}
use Rattle.params.specs.Parameters.{k, p}
use Rattle.params.specs.Checks.{parameter_check}
use Rattle.stationary.specs.Stationary.{start_shares, values_of}
use Rattle.binding.specs.Binding.{bound_check, params_check, admitted_check}
use Rattle.rows.specs.Rows.{probability, result_at}
use Rattle.prediction.specs.Prediction.{rule_of}
use Rattle.prediction.specs.declared.Rule.{Rule}
use Rattle.filter.specs.Filter.{filtered_row, row_count, filter_check}
use Rattle.calls.specs.Calls.{Outcome, run_check, run_answer, called, filtered_table, filter_call, smooth_call}
use Rattle.binding.proofs.Passed.{fits, same_shape}
use Rattle.calls.proofs.Runs.{run_says}
use Rattle.c_layout.specs.Layout.{loglik_spelled}
use Rattle.c_interface.specs.Interface.{left}
use Rattle.promises.specs.Demand.{NotBelow, Demand3, Asked, AskedFromC, Demand}
use Rattle.promises.proofs.Update.{near_same}
use Rattle.promises.proofs.Filtered.{filtered_near_one}

-- ---- a call that answers

-- it was not refused for what was handed in, and its outcome is the run's
module _ (c : Check) (work filtered smoothed : List Float) (run : Outcome) (answers : check_of (called c work filtered smoothed run).answer ≡ Passed) where
  pub was_admitted : (c ≡ Passed) × (called c work filtered smoothed run ≡ run)
  was_admitted = go c answers
    where
      go : (c : Check) → check_of (called c work filtered smoothed run).answer ≡ Passed → (c ≡ Passed) × (called c work filtered smoothed run ≡ run)
      go Passed e = (refl, refl)
      go (Failed r) e = (e, cc)

module _ (S : MsarSpec) (y : List Float) (q : MsarParams) (own : Check) (passed : admitted_check S y own q ≡ Passed) where
  shape : Shape (k q) (p q)
  unfolding admitted_check
  shape =
      let c₁ = both (bound_check S y) passed in
      let s = same_shape S q (both own c₁.1).1 in
      subst (λ (x : ℕ). Shape (k q) x) (sym s.1) (subst (λ (x : ℕ). Shape x S.order) (sym s.0) (fits S y c₁.0).shape)

  pub parameters : parameter_check q ≡ Passed
  unfolding admitted_check params_check
  parameters =
      let c₁ = both (bound_check S y) passed in
      let c₂ = both own c₁.1 in
      (both (parameter_check q) c₂.1).0

  -- ---- the table of a run that passed

  module _ (rule : Rule) (ran : run_check rule q y ≡ Passed) (given : (s : ℕ) → s < k q → NotBelow ((values_of (start_shares q)) ! s)) (found : List Float) where
    place : (i s : ℕ) → i < row_count q y → s < k q
        → probability (k q) (p q) (filtered_row rule q y (values_of (start_shares q)) i) s ≡ cell (k q) (filtered_table rule q y found) i s
    unfolding filtered_table result_at
    place i s h l =
        rw ran
        (sym
        (fill_at_lem (result_at (k q) (p q) (filtered_row rule q y (values_of (start_shares q)))) (row_count q y * k q) found refl (i * k q + s) (digits_lt h l)
        ∙ ap₂ (λ (r t : ℕ). probability (k q) (p q) (filtered_row rule q y (values_of (start_shares q)) r) t) (digits_div i l) (digits_mod i l)))

    pub filtered_table_lem : Demand3 q y (filtered_table rule q y found)
    unfolding run_check filter_check
    filtered_table_lem i h =
        near_same _ _ _ _ (λ s l. place i s h l)
        (filtered_near_one rule q y (values_of (start_shares q)) shape parameters given (row_count q y) (both (check_of (start_shares q)) ran).1 i h)

-- ---- demand 3, of a call whatever it checks of its own, and whatever its run leaves beside the filtered table

call_keeps : (S : MsarSpec) (y : List Float) (rule : Rule) (q : MsarParams) (own : Check) (work found smoothed : List Float) (run : Outcome)
    → run.answer ≡ run_answer rule q y → run.filtered ≡ filtered_table rule q y found
    → Asked q (called (admitted_check S y own q) work found smoothed run)
    → Demand3 q y (called (admitted_check S y own q) work found smoothed run).filtered
call_keeps S y rule q own work found smoothed run answer table asked =
    let c = was_admitted (admitted_check S y own q) work found smoothed run asked.answers in
    let ran = run_says rule q y answer (sym (ap (λ (o : Outcome). check_of o.answer) c.1) ∙ asked.answers) in
    subst (Demand3 q y) (sym (ap (λ (o : Outcome). o.filtered) c.1 ∙ table)) (filtered_table_lem S y q own c.0 rule ran asked.shares found)

of_filter : (S : MsarSpec) (y : List Float) (q : MsarParams) (rule : ℕ) (work filtered : List Float)
    → Asked q (filter_call S y q rule work filtered) → Demand3 q y (filter_call S y q rule work filtered).filtered
unfolding filter_call
of_filter S y q rule work filtered = call_keeps S y (rule_of rule) q _ work filtered [] _ refl refl

of_smooth : (S : MsarSpec) (y : List Float) (q : MsarParams) (rule : ℕ) (work filtered smoothed : List Float)
    → Asked q (smooth_call S y q rule work filtered smoothed) → Demand3 q y (smooth_call S y q rule work filtered smoothed).filtered
unfolding smooth_call
of_smooth S y q rule work filtered smoothed = call_keeps S y (rule_of rule) q _ work filtered smoothed _ refl refl

-- ---- from C

-- no refusal has the number 0, so `whole` begins with 0 only where the call answers
answered : (a : Result Float Refusal) → get_or (loglik_spelled a).whole 0 1 ≡ 0 → check_of a ≡ Passed
answered (Ok loglik) e = refl
answered (Err r) e = absurd (number_above r e)

from_c : (q : MsarParams) (o : Outcome) → AskedFromC q (left o) → Asked q o
unfolding left
from_c q o a = record { answers = answered o.answer a.answers; shares = a.shares }

pub demand : Demand
unfolding left
demand =
    record {
      filter = of_filter;
      smooth = of_smooth;
      msar_filter = λ k order ar variance y counts numbers rule work filtered a. of_filter _ y _ rule work filtered (from_c _ _ a);
      msar_smooth = λ k order ar variance y counts numbers rule work filtered smoothed a. of_smooth _ y _ rule work filtered smoothed (from_c _ _ a);
    }
