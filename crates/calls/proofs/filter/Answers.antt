-- `filter` meets its contract: refused with nothing touched, or what its run leaves.
use Rattle.std.specs.Prelude.{Ok, Err}
use Prim.Native.Nat.{ℕ, ◌+◌, ◌*◌}
use mathlib.Core.Path.{◌≡◌, ap, ◌∙◌}
use native.Mathlib.Omega.{arith}
use borrow.Author.Rules.{rules}
use lib.ListN.{length}
use Rattle.refusal.specs.Checks.{Passed, ◌before◌}
use Rattle.refusal.proofs.Checks.{both}
use Rattle.binding.specs.Binding.{bound_of, memory_check, rule_check, params_check, filter_need}
use Rattle.binding.proofs.Passed.{small, rule_known}
use Rattle.calls.specs.Calls.{filter_memory}
use Rattle.calls.proofs.Admitted.{series_refused, memory_refused, asked_refused, asked_passed, filter_need_is, table_checked, Admitted, is_admitted, long_enough}
use Rattle.calls.proofs.Outcomes.{filter_refused, filter_ran}
use Rattle.calls.proofs.filter.Goals.{In_ok-b, After-filter_need-need, In_ok-asked, In_ok-memory}
use Rattle.calls.proofs.filter.Goals as goal

bound : (c : In_ok-b) → bound_of c.args.s c.args.y.now ≡ Ok c.in_ok-b.b
bound c = search rules

-- where the need of memory is known
module _ (c : After-filter_need-need) where
  series : bound_of c.args.s c.args.y.now ≡ Ok c.in_ok-b.b
  series = search rules

  needed : c.filter_need-need.result ≡ filter_need c.args.s c.args.y.now
  needed = filter_need_is c.args.s c.args.y.now series c.filter_need-need.ensures

-- where memory passed
module _ (c : In_ok-memory) where
  series-later : bound_of c.args.s c.args.y.now ≡ Ok c.in_ok-b.b
  series-later = search rules

  own : filter_memory c.args.s c.args.y.now c.args.work.now c.args.filtered.now ≡ Passed
  own = table_checked c.args.s c.args.y.now series-later (filter_need_is c.args.s c.args.y.now series-later c.filter_need-need.ensures) _ _ (search rules)

-- where everything passed
module _ (c : In_ok-asked) where
  series-last : bound_of c.args.s c.args.y.now ≡ Ok c.in_ok-b.b
  series-last = search rules

  asked : (rule_check c.args.rule before params_check c.args.s c.args.q) ≡ Passed
  asked = search rules

  memory-last : filter_memory c.args.s c.args.y.now c.args.work.now c.args.filtered.now ≡ Passed
  memory-last = table_checked c.args.s c.args.y.now series-last (filter_need_is c.args.s c.args.y.now series-last c.filter_need-need.ensures) _ _ (search rules)

  admitted : Admitted c.args.s c.args.y.now series-last c.args.q
  admitted = is_admitted c.args.s c.args.y.now series-last c.args.q (both (rule_check c.args.rule) asked).1

pub returns-in_err-b : goal.returns-in_err-b
returns-in_err-b c =
    let s = c.args in
    let given : c.from_residual.result ≡ Err c.in_err-b.field-0.0 = search rules in
    rw given (filter_refused s.s s.y.now s.q s.rule s.work.now s.filtered.now (series_refused s.s s.y.now s.q _ (search rules)))

pub filter_need-need-requires : goal.filter_need-need-requires
filter_need-need-requires c = (small c.args.s c.args.y.now (bound (goal.at.filter_need-need-requires c).In_ok-b)).work

pub memory-requires : goal.memory-requires
memory-requires c = (small c.args.s c.args.y.now (series (goal.at.memory-requires c).After-filter_need-need)).table

pub returns-in_err-memory : goal.returns-in_err-memory
returns-in_err-memory c =
    let s = c.args in
    let at = (goal.at.returns-in_err-memory c).After-filter_need-need in
    let given : c.from_residual-in_err-memory.result ≡ Err c.in_err-memory.field-0.0 = search rules in
    rw given (filter_refused s.s s.y.now s.q s.rule s.work.now s.filtered.now (memory_refused s.s s.y.now (series at) s.q s.rule _ (table_checked s.s s.y.now (series at) (needed at) _ _ (search rules))))

pub returns-in_err-asked : goal.returns-in_err-asked
returns-in_err-asked c =
    let s = c.args in
    let at = (goal.at.returns-in_err-asked c).In_ok-memory in
    let given : c.from_residual-in_err-asked.result ≡ Err c.in_err-asked.field-0.0 = search rules in
    rw given (filter_refused s.s s.y.now s.q s.rule s.work.now s.filtered.now (asked_refused s.s s.y.now (series-later at) s.q s.rule _ (own at) (search rules)))

pub of-sizes-requires : goal.of-sizes-requires
of-sizes-requires c = let a = admitted (goal.at.of-sizes-requires c).In_ok-asked in record { shape = a.shape; windows_value = a.windows_are_of }

pub rule_of-requires : goal.rule_of-requires
rule_of-requires c = rule_known _ (both (rule_check c.args.rule) (asked (goal.at.rule_of-requires c).In_ok-asked)).0

pub run_filter-requires-clause-rows : goal.run_filter-requires-clause-rows
run_filter-requires-clause-rows c =
    let at = (goal.at.run_filter-requires-clause-rows c).In_ok-asked in
    let a = admitted at in
    let m = both (memory_check (length c.args.work.now) (filter_need c.args.s c.args.y.now)) (memory-last at) in
    (a.rows_of, a.short, rw c.of-sizes.ensures.powers.1 (omega (arith, a.filter_need_lem, long_enough _ _ m.0)), omega (arith, a.table_need_lem, long_enough _ _ m.1))

pub returns : goal.returns
returns c =
    let s = c.args in
    let at = (goal.at.returns c).In_ok-asked in
    let ran = c.run_filter.ensures in
    filter_ran s.s s.y.now s.q s.rule s.work.now c.rule_of.ensures ran.answer ran.work
    (ap (λ (x : ℕ). c.in_ok-b.b.rows * x + 256) c.of-sizes.ensures.powers.1 ∙ (admitted at).filter_need_lem) s.filtered.now ran.table
    (asked_passed s.s s.y.now (series-last at) s.q s.rule _ (memory-last at) (asked at))
