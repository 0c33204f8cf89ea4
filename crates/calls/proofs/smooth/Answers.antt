-- `smooth` meets its contract: refused with nothing touched, or what its run leaves.
use Rattle.std.specs.Prelude.{Ok, Err}
use Prim.Native.Nat.{ℕ, ◌*◌}
use mathlib.Core.Path.{◌≡◌, ap, ◌∙◌}
use native.Mathlib.Omega.{arith}
use borrow.Author.Rules.{rules}
use lib.ListN.{length}
use Rattle.refusal.specs.Checks.{Passed, ◌before◌}
use Rattle.refusal.proofs.Checks.{both}
use Rattle.binding.specs.Binding.{bound_of, memory_check, rule_check, params_check, smooth_need, table_need}
use Rattle.binding.proofs.Passed.{small, rule_known}
use Rattle.calls.specs.Calls.{smooth_memory}
use Rattle.calls.proofs.Admitted.{series_refused, memory_refused, asked_refused, asked_passed, smooth_need_is, first_refused, second_checked, Admitted, is_admitted, long_enough}
use Rattle.calls.proofs.Outcomes.{smooth_refused, smooth_ran}
use Rattle.calls.proofs.smooth.Goals.{In_ok-b, After-smooth_need-need, In_ok-memory, In_ok-asked, In_ok-memory-2}
use Rattle.calls.proofs.smooth.Goals as goal

bound : (c : In_ok-b) → bound_of c.args.s c.args.y.now ≡ Ok c.in_ok-b.b
bound c = search rules

-- where the need of memory is known
module _ (c : After-smooth_need-need) where
  series : bound_of c.args.s c.args.y.now ≡ Ok c.in_ok-b.b
  series = search rules

  needed : c.smooth_need-need.result ≡ smooth_need c.args.s c.args.y.now
  needed = smooth_need_is c.args.s c.args.y.now series c.smooth_need-need.ensures

-- where memory passed
module _ (c : In_ok-memory-2) where
  series-later : bound_of c.args.s c.args.y.now ≡ Ok c.in_ok-b.b
  series-later = search rules

  own : smooth_memory c.args.s c.args.y.now c.args.work.now c.args.filtered.now c.args.smoothed.now ≡ Passed
  own = second_checked c.args.s c.args.y.now series-later (smooth_need_is c.args.s c.args.y.now series-later c.smooth_need-need.ensures) _ _ _ (search rules) (search rules)

-- where everything passed
module _ (c : In_ok-asked) where
  series-last : bound_of c.args.s c.args.y.now ≡ Ok c.in_ok-b.b
  series-last = search rules

  asked : (rule_check c.args.rule before params_check c.args.s c.args.q) ≡ Passed
  asked = search rules

  memory-last : smooth_memory c.args.s c.args.y.now c.args.work.now c.args.filtered.now c.args.smoothed.now ≡ Passed
  memory-last = second_checked c.args.s c.args.y.now series-last (smooth_need_is c.args.s c.args.y.now series-last c.smooth_need-need.ensures) _ _ _ (search rules) (search rules)

  admitted : Admitted c.args.s c.args.y.now series-last c.args.q
  admitted = is_admitted c.args.s c.args.y.now series-last c.args.q (both (rule_check c.args.rule) asked).1

pub returns-in_err-b : goal.returns-in_err-b
returns-in_err-b c =
    let s = c.args in
    let given : c.from_residual.result ≡ Err c.in_err-b.field-0.0 = search rules in
    rw given (smooth_refused s.s s.y.now s.q s.rule s.work.now s.filtered.now s.smoothed.now (series_refused s.s s.y.now s.q _ (search rules)))

pub smooth_need-need-requires : goal.smooth_need-need-requires
smooth_need-need-requires c = (small c.args.s c.args.y.now (bound (goal.at.smooth_need-need-requires c).In_ok-b)).work

pub memory-requires : goal.memory-requires
memory-requires c = (small c.args.s c.args.y.now (series (goal.at.memory-requires c).After-smooth_need-need)).table

pub overflow_mul-b : goal.overflow_mul-b
overflow_mul-b c = omega (arith, (small c.args.s c.args.y.now (series (goal.at.overflow_mul-b c).After-smooth_need-need)).table)

pub returns-in_err-memory : goal.returns-in_err-memory
returns-in_err-memory c =
    let s = c.args in
    let at = (goal.at.returns-in_err-memory c).After-smooth_need-need in
    let given : c.from_residual-in_err-memory.result ≡ Err c.in_err-memory.field-0.0 = search rules in
    rw given (smooth_refused s.s s.y.now s.q s.rule s.work.now s.filtered.now s.smoothed.now (memory_refused s.s s.y.now (series at) s.q s.rule _ (first_refused s.s s.y.now (series at) (needed at) _ _ _ (search rules))))

pub returns-in_err-memory-2 : goal.returns-in_err-memory-2
returns-in_err-memory-2 c =
    let s = c.args in
    let at = (goal.at.returns-in_err-memory-2 c).After-smooth_need-need in
    let given : c.from_residual-in_err-memory-2.result ≡ Err c.in_err-memory-2.field-0.0 = search rules in
    rw given (smooth_refused s.s s.y.now s.q s.rule s.work.now s.filtered.now s.smoothed.now (memory_refused s.s s.y.now (series at) s.q s.rule _ (second_checked s.s s.y.now (series at) (needed at) _ _ _ (search rules) (search rules))))

pub returns-in_err-asked : goal.returns-in_err-asked
returns-in_err-asked c =
    let s = c.args in
    let at = (goal.at.returns-in_err-asked c).In_ok-memory-2 in
    let given : c.from_residual-in_err-asked.result ≡ Err c.in_err-asked.field-0.0 = search rules in
    rw given (smooth_refused s.s s.y.now s.q s.rule s.work.now s.filtered.now s.smoothed.now (asked_refused s.s s.y.now (series-later at) s.q s.rule _ (own at) (search rules)))

pub of-sizes-requires : goal.of-sizes-requires
of-sizes-requires c = let a = admitted (goal.at.of-sizes-requires c).In_ok-asked in record { shape = a.shape; windows_value = a.windows_are_of }

pub rule_of-requires : goal.rule_of-requires
rule_of-requires c = rule_known _ (both (rule_check c.args.rule) (asked (goal.at.rule_of-requires c).In_ok-asked)).0

pub run_smooth-requires-clause-rows : goal.run_smooth-requires-clause-rows
run_smooth-requires-clause-rows c =
    let at = (goal.at.run_smooth-requires-clause-rows c).In_ok-asked in
    let a = admitted at in
    let m = both (memory_check (length c.args.work.now) (smooth_need c.args.s c.args.y.now)) (memory-last at) in
    let t = both (memory_check (length c.args.filtered.now) (table_need c.args.s c.args.y.now)) m.1 in
    (a.rows_of, a.short, rw c.of-sizes.ensures.powers.1 (omega (arith, a.smooth_need_lem, long_enough _ _ m.0)), omega (arith, a.table_need_lem, long_enough _ _ t.0), omega (arith, a.table_need_lem, long_enough _ _ t.1), a.some)

pub returns : goal.returns
returns c =
    let s = c.args in
    let at = (goal.at.returns c).In_ok-asked in
    let ran = c.run_smooth.ensures in
    smooth_ran s.s s.y.now s.q s.rule s.work.now c.rule_of.ensures ran.answer ran.work
    (ap (λ (x : ℕ). 2 * (c.in_ok-b.b.rows * x)) c.of-sizes.ensures.powers.1 ∙ (admitted at).smooth_need_lem) s.filtered.now s.smoothed.now ran.filtered ran.smoothed
    (asked_passed s.s s.y.now (series-last at) s.q s.rule _ (memory-last at) (asked at))
