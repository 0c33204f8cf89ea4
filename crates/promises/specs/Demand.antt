-- Demand 3, of the tables that `filter` and `smooth`, and from C `msar_filter` and `msar_smooth`, leave with their caller: "Where the filter answers
-- and no stationary share is below zero, every filtered probability is at least zero, and each row's exact total differs from one by at most
-- m / 2^52, m being the number of windows." What this says of one row is `NearOne` (crates/rounding/specs/NearOne.antt). The rows are demand 2's,
-- since the tables are those of the calls' own definitions.
use Rattle.std.specs.Prelude.{◌≡◌, Bool, false, List, ℕ, suc, ◌^◌, ◌<◌, get_or, Float}
use Rattle.std.specs.Float.Ieee.{lt}
use Rattle.number.specs.Number.{zero⁺}
use Rattle.number.specs.Table.{◌!◌, cell}
use Rattle.rounding.specs.NearOne.{NearOne}
use Rattle.refusal.specs.Checks.{Passed, check_of}
use Rattle.spec.specs.declared.MsarSpec.{MsarSpec}
use Rattle.params.specs.declared.MsarParams.{MsarParams}
use Rattle.params.specs.Parameters.{k, p}
use Rattle.stationary.specs.Stationary.{start_shares, values_of}
use Rattle.filter.specs.Filter.{row_count}
use Rattle.calls.specs.Calls.{Outcome, filter_call, smooth_call}
use Rattle.c_layout.specs.Layout.{params_of}
use Rattle.c_interface.specs.Interface.{spec_of, Left, left}

-- x is not below zero. A NaN is not below zero either
abbrev pub NotBelow : Float → Type 0
NotBelow x = lt x zero⁺ ≡ false

-- every row of a table is near one: n = T - p rows of k probabilities, one row after another, and m = k ^ (p + 1)
abbrev pub Demand3 : MsarParams → List Float → List Float → Type 0
Demand3 q y table = (i : ℕ) → i < row_count q y → NearOne (k q) (k q ^ suc (p q)) (cell (k q) table i)

-- no share that the filter starts from is below zero
abbrev pub SharesNotBelow : MsarParams → Type 0
SharesNotBelow q = (s : ℕ) → s < k q → NotBelow ((values_of (start_shares q)) ! s)

-- what demand 3 asks first: the call answers, and no such share is below zero
pub record Asked (q : MsarParams) (outcome : Outcome) : Type 0 where
  pub answers : check_of outcome.answer ≡ Passed
  pub shares : SharesNotBelow q

-- the same of a call from C: place 0 of `whole` is the refusal number 0 (1 stands for a place that isn't there)
pub record AskedFromC (q : MsarParams) (o : Left) : Type 0 where
  pub answers : get_or o.whole 0 1 ≡ 0
  pub shares : SharesNotBelow q

-- demand 3 of the table that the caller of `filter` holds afterwards, and of the filtered table of `smooth`, whatever the rule
pub record Demand : Type 0 where
  pub filter : (S : MsarSpec) (y : List Float) (q : MsarParams) (rule : ℕ) (work filtered : List Float)
      → Asked q (filter_call S y q rule work filtered) → Demand3 q y (filter_call S y q rule work filtered).filtered
  pub smooth : (S : MsarSpec) (y : List Float) (q : MsarParams) (rule : ℕ) (work filtered smoothed : List Float)
      → Asked q (smooth_call S y q rule work filtered smoothed) → Demand3 q y (smooth_call S y q rule work filtered smoothed).filtered
  -- and of what `msar_filter` and `msar_smooth` leave in the caller's array `filtered`: EntryPoints.antt has the same `left ..`
  pub msar_filter : (k order : ℕ) (ar variance : Bool) (y : List Float) (counts : List ℕ) (numbers : List Float) (rule : ℕ) (work filtered : List Float)
      → let q = params_of counts numbers in
      let o = left (filter_call (spec_of k order ar variance) y q rule work filtered) in
      AskedFromC q o → Demand3 q y o.filtered
  pub msar_smooth : (k order : ℕ) (ar variance : Bool) (y : List Float) (counts : List ℕ) (numbers : List Float) (rule : ℕ) (work filtered smoothed : List Float)
      → let q = params_of counts numbers in
      let o = left (smooth_call (spec_of k order ar variance) y q rule work filtered smoothed) in
      AskedFromC q o → Demand3 q y o.filtered
