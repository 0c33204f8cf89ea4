-- The calls: for every input the answer, and all lent memory at exit as a function of what was lent.
-- After document 01, "Refusals by number" and "How much a contract says", of work memory document 02, Q-8, of the rule Q-5.
use Rattle.std.specs.Prelude.{ℕ, ◌-◌, ◌*◌, List, [], length, Float, Result, Ok, Err}
use Rattle.number.specs.Number.{zero⁺}
use Rattle.number.specs.Table.{fill_at}
use Rattle.refusal.specs.declared.Refusal.{Refusal}
use Rattle.refusal.specs.Checks.{Check, ◌before◌, check_of}
use Rattle.spec.specs.declared.MsarSpec.{MsarSpec}
use Rattle.params.specs.declared.MsarParams.{MsarParams}
use Rattle.params.specs.Parameters.{k, p}
use Rattle.stationary.specs.Stationary.{start_shares, values_of}
use Rattle.binding.specs.Binding.{admitted_check, memory_check, rule_check, filter_need, smooth_need, table_need}
use Rattle.rows.specs.Rows.{result_at}
use Rattle.prediction.specs.Prediction.{rule_of}
use Rattle.prediction.specs.declared.Rule.{Rule}
use Rattle.filter.specs.Filter.{predicted_row, filtered_row, row_count, filter_check, loglik_of, answer_after}
use Rattle.smoother.specs.Smoother.{smoothed_row}

-- ---- a run: the start shares, then the filter from them, by the rule

-- what a run may refuse with: 21 or 22 of the shares, then 23
unfoldable pub run_check : Rule → MsarParams → List Float → Check
run_check rule q y = let start = start_shares q in check_of start before filter_check rule q y (values_of start)

unfoldable pub run_loglik : Rule → MsarParams → List Float → Float
run_loglik rule q y = loglik_of rule q y (values_of (start_shares q))

unfoldable pub run_answer : Rule → MsarParams → List Float → Result Float Refusal
run_answer rule q y = answer_after (run_check rule q y) (run_loglik rule q y)

-- ---- what it leaves in memory

-- after a run, refused or not, the needed work memory holds positive zero
abbrev pub cleared : ℕ → List Float → List Float
cleared need work = fill_at 0 (λ _. zero⁺) need work

-- a table whose first n · k places are written anew with the probabilities of the labels, row by row; what lies beyond them stays
abbrev pub table_of : MsarParams → List Float → (ℕ → List Float) → List Float → List Float
table_of q y rows found = fill_at 0 (result_at (k q) (p q) rows) (row_count q y * k q) found

-- a refused run leaves a table as found
abbrev pub written : Check → List Float → List Float → List Float
written (Ok _) table found = table
written (Err r) table found = found

unfoldable pub filtered_table : Rule → MsarParams → List Float → List Float → List Float
filtered_table rule q y found = written (run_check rule q y) (table_of q y (filtered_row rule q y (values_of (start_shares q))) found) found

-- row i of n is followed by n - 1 - i rows
abbrev pub smoothed_from : Rule → MsarParams → List Float → List Float → ℕ → ℕ → List Float
smoothed_from rule q y shares n i = smoothed_row q (predicted_row rule q y shares) (filtered_row rule q y shares) (n - 1 - i) i

unfoldable pub smoothed_table : Rule → MsarParams → List Float → List Float → List Float
smoothed_table rule q y found = written (run_check rule q y) (table_of q y (smoothed_from rule q y (values_of (start_shares q)) (row_count q y)) found) found

-- ---- the outcome of a call. A call that takes no such table is lent the empty one

pub record Outcome : Type 0 where
  pub answer : Result Float Refusal
  pub work : List Float
  pub filtered : List Float
  pub smoothed : List Float

-- a refusal of what the caller handed in touches no lent memory
abbrev pub called : Check → List Float → List Float → List Float → Outcome → Outcome
called (Err r) work filtered smoothed run = record { answer = Err r; work = work; filtered = filtered; smoothed = smoothed }
called (Ok _) work filtered smoothed run = run

-- what a call checks of its own, first: 7, in the order work, filtered table, smoothed table
module _ (S : MsarSpec) (y work : List Float) where
  abbrev pub loglike_memory : Check
  loglike_memory = memory_check (length work) (filter_need S y)

  abbrev pub filter_memory : List Float → Check
  filter_memory filtered = memory_check (length work) (filter_need S y) before memory_check (length filtered) (table_need S y)

  abbrev pub smooth_memory : List Float → List Float → Check
  smooth_memory filtered smoothed =
      memory_check (length work) (smooth_need S y)
      before memory_check (length filtered) (table_need S y)
      before memory_check (length smoothed) (table_need S y)

-- then 29, by the rule number
module _ (S : MsarSpec) (y : List Float) (q : MsarParams) (rule : ℕ) (work : List Float) where
  unfoldable pub loglike_call : Outcome
  loglike_call =
      called (admitted_check S y (loglike_memory S y work before rule_check rule) q) work [] []
      (record { answer = run_answer (rule_of rule) q y; work = cleared (filter_need S y) work; filtered = []; smoothed = [] })

  unfoldable pub filter_call : List Float → Outcome
  filter_call filtered =
      called (admitted_check S y (filter_memory S y work filtered before rule_check rule) q) work filtered []
      (record {
        answer = run_answer (rule_of rule) q y;
        work = cleared (filter_need S y) work;
        filtered = filtered_table (rule_of rule) q y filtered;
        smoothed = [];
      })

  unfoldable pub smooth_call : List Float → List Float → Outcome
  smooth_call filtered smoothed =
      called (admitted_check S y (smooth_memory S y work filtered smoothed before rule_check rule) q) work filtered smoothed
      (record {
        answer = run_answer (rule_of rule) q y;
        work = cleared (smooth_need S y) work;
        filtered = filtered_table (rule_of rule) q y filtered;
        smoothed = smoothed_table (rule_of rule) q y smoothed;
      })
