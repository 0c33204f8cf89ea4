-- A run from its start shares; what it leaves: work memory cleared, and the tables that the definition has. Assumes nothing.
use Rattle.std.specs.Prelude.{Result, Ok, Err}
use Prim.Native.Nat.{ℕ, suc, ◌+◌, ◌-◌, ◌*◌, ◌^◌, ◌<◌, ◌≤◌}
use mathlib.Core.Path.{◌≡◌, refl, sym, ap, subst, ◌∙◌}
use mathlib.Core.List.{List}
use native.Mathlib.Nat.{pow-suc, mul-le-mul}
use native.Mathlib.Omega.{arith}
use lib.ListN.{length, drop}
use lib.Seq.{drop-drop}
use lib.Ieee.{Float}
use Rattle.number.specs.Number.{zero⁺}
use Rattle.number.specs.Table.{fill_at}
use Rattle.number.proofs.Table.{fill_at_over, fill_at_ext}
use Rattle.refusal.specs.Checks.{Check, Passed, Failed, check_of}
use Rattle.refusal.specs.declared.Refusal.{Refusal}
use Rattle.params.specs.declared.MsarParams.{MsarParams}
use Rattle.params.specs.Parameters.{k, p}
use Rattle.rows.specs.Rows.{result_at, Same, windows_of}
use Rattle.rows.specs.Memory.{filtered_from, predicted_from}
use Rattle.rows.specs.Steps.{label_sum_at}
use Rattle.rows.proofs.Rows.{tabulated}
use Rattle.stationary.specs.Stationary.{start_shares, values_of}
use Rattle.prediction.specs.declared.Rule.{Rule}
use Rattle.filter.specs.Filter.{predicted_row, filtered_row, row_count, answer_after, filter_answer}
use Rattle.filter.specs.Steps.{Held}
use Rattle.smoother.specs.InMemory.{SmoothedRows}
use Rattle.calls.specs.Calls.{run_check, run_loglik, run_answer, cleared, table_of, filtered_table, smoothed_from, smoothed_table}

-- what lies past the rows is as it was, so that the cleared memory is the one lent
pub drop_more : (u v : ℕ) (a b : List Float) → u ≤ v → drop u a ≡ drop u b → drop v a ≡ drop v b
drop_more u v a b h d =
    let e : u + (v - u) ≡ v = omega arith in
    let past : (l : List Float) → drop (v - u) (drop u l) ≡ drop v l = λ l. drop-drop (v - u) u l ∙ ap (λ (x : ℕ). drop x l) e in
    sym (past a) ∙ ap (drop (v - u)) d ∙ past b

pub all_cleared : (u need : ℕ) (found ran : List Float) {w : List Float} → drop u ran ≡ drop u found → w ≡ cleared need ran → u ≤ need
    → w ≡ cleared need found
all_cleared u need found ran d e h = e ∙ fill_at_over (λ _. zero⁺) need ran found (drop_more u need ran found h d)

-- ---- the start shares, then the filter from them

pub values_are : (q : MsarParams) {s : Result (List Float) Refusal} → s ≡ start_shares q → values_of s ≡ values_of (start_shares q)
values_are q shares = ap values_of shares

module _ (rule : Rule) (q : MsarParams) (y : List Float) {s : Result (List Float) Refusal} (shares : s ≡ start_shares q) where
  pub run_answer_lem : {a : Result Float Refusal} → a ≡ filter_answer rule q y s → a ≡ run_answer rule q y
  unfolding run_answer run_check run_loglik filter_answer
  run_answer_lem e = e ∙ ap (filter_answer rule q y) shares

-- ---- whether the run was refused

answer_says : (c : Check) (loglik : Float) → check_of (answer_after c loglik) ≡ c
answer_says Passed loglik = refl
answer_says (Failed r) loglik = refl

module _ (rule : Rule) (q : MsarParams) (y : List Float) {a : Result Float Refusal} (answer : a ≡ run_answer rule q y) {c : Check} where
  pub run_says : check_of a ≡ c → run_check rule q y ≡ c
  unfolding run_answer
  run_says d = sym (answer_says (run_check rule q y) (run_loglik rule q y)) ∙ sym (ap check_of answer) ∙ d

module _ (rule : Rule) (q : MsarParams) (y : List Float) {a : Result Float Refusal} (answer : a ≡ run_answer rule q y) where
  pub passed_says : {loglik : Float} → a ≡ Ok loglik → run_check rule q y ≡ Passed
  passed_says e = run_says rule q y answer (ap check_of e)

  pub refused_says : {r : Refusal} → a ≡ Err r → run_check rule q y ≡ Failed r
  refused_says e = run_says rule q y answer (ap check_of e)

module _ (rule : Rule) (q : MsarParams) (y : List Float) {r : Refusal} (refused : run_check rule q y ≡ Failed r) (found : List Float) where
  pub filtered_as_found : found ≡ filtered_table rule q y found
  unfolding filtered_table
  filtered_as_found = rw refused

  pub smoothed_as_found : found ≡ smoothed_table rule q y found
  unfolding smoothed_table
  smoothed_as_found = rw refused

-- ---- the tables of n rows that stand in memory

module _ (q : MsarParams) (m power n : ℕ) (pos : 0 < k q) (windows : m ≡ windows_of q) (power_is : power ≡ k q ^ p q) where
  rows_tabled : (work found : List Float) (rows : ℕ → List Float) {table : List Float}
      → ((i : ℕ) → i < n → Same m (drop (filtered_from m i) work) (rows i))
      → table ≡ fill_at 0 (label_sum_at (k q) power m work) (n * k q) found → table ≡ fill_at 0 (result_at (k q) (p q) rows) (n * k q) found
  rows_tabled work found rows stand e =
      e
      ∙ ap (λ (x : ℕ). fill_at 0 (label_sum_at (k q) x m work) (n * k q) found) power_is
      ∙ fill_at_ext 0 _ (n * k q) found (result_at (k q) (p q) rows) (tabulated (k q) (p q) pos m work rows n windows stand)

  module _ (rule : Rule) (y shares work : List Float) {kept : ℕ} (held : Held rule q y shares n m kept n work) where
    pub smoothed_tabled : 2 * n ≤ kept → (after found : List Float) {table : List Float} → SmoothedRows q n work after
        → table ≡ fill_at 0 (label_sum_at (k q) power m after) (n * k q) found → table ≡ fill_at 0 (result_at (k q) (p q) (smoothed_from rule q y shares n)) (n * k q) found
    smoothed_tabled all after found s e =
        rows_tabled after found (smoothed_from rule q y shares n)
        (λ i h. subst (λ (x : ℕ). Same x (drop (filtered_from x i) after) (smoothed_from rule q y shares n i)) (sym windows)
        (s.rows (predicted_row rule q y shares) (filtered_row rule q y shares)
        (subst (λ (x : ℕ). (j : ℕ) → j < n → Same x (drop (predicted_from n x j) work) (predicted_row rule q y shares j)) windows (λ j h. held.predicted j h (omega arith)))
        (subst (λ (x : ℕ). (j : ℕ) → j < n → Same x (drop (filtered_from x j) work) (filtered_row rule q y shares j)) windows (λ j h. held.filtered j h (omega arith)))
        i h))
        e

    -- of a run that was not refused
    module _ (rows_are : p q + n ≡ length y) (passed : run_check rule q y ≡ Passed) (start : shares ≡ values_of (start_shares q)) where
      counted : n ≡ row_count q y
      counted = omega arith

      pub filtered_is : n ≤ kept → (found : List Float) {table : List Float} → table ≡ fill_at 0 (label_sum_at (k q) power m work) (n * k q) found → table ≡ filtered_table rule q y found
      unfolding filtered_table
      filtered_is all found e =
          rw passed
          (rows_tabled work found (filtered_row rule q y shares) (λ j h. held.filtered j h (omega arith)) e
          ∙ ap (λ (x : ℕ). fill_at 0 (result_at (k q) (p q) (filtered_row rule q y shares)) (x * k q) found) counted
          ∙ ap (λ (x : List Float). table_of q y (filtered_row rule q y x) found) start)

      pub smoothed_is : (found : List Float) {table : List Float} → table ≡ fill_at 0 (result_at (k q) (p q) (smoothed_from rule q y shares n)) (n * k q) found → table ≡ smoothed_table rule q y found
      unfolding smoothed_table
      smoothed_is found e =
          rw passed
          (e
          ∙ ap (λ (x : ℕ). fill_at 0 (result_at (k q) (p q) (smoothed_from rule q y shares x)) (x * k q) found) counted
          ∙ ap (λ (x : List Float). table_of q y (smoothed_from rule q y x (row_count q y)) found) start)

-- k^p windows for each label now
pub windows_split : (k p : ℕ) {m power : ℕ} → m ≡ k ^ suc p → power ≡ k ^ p → power * k ≡ m
windows_split k p e d = rw (e, d) (sym (pow-suc k p))

-- rows times windows are fewer than a usize counts
pub cells_small : (q : MsarParams) (T m n : ℕ) → k q ^ suc (p q) ≤ 256 → m ≡ windows_of q → p q + n ≡ T → T ≤ 4096 → n * m ≤ 4096 * 256
cells_small q T m n few w r s =
    let a : n ≤ 4096 = omega arith in
    let b : m ≤ 256 = rw w few in
    mul-le-mul a b
