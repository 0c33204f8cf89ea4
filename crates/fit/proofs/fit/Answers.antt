-- `fit` meets its contract: refused with nothing touched, or what the passes and the closing one leave.
use Rattle.std.specs.Prelude.{Ok, Err}
use Prim.Native.Nat.{ℕ, ◌*◌}
use mathlib.Core.Path.{◌≡◌, refl, sym, ap, ◌∙◌}
use native.Mathlib.Omega.{arith}
use borrow.Author.Rules.{rules}
use lib.ListN.{length}
use lib.Ieee.{Float}
use Rattle.number.specs.Number.{◌⊗◌}
use Rattle.refusal.specs.Checks.{Passed}
use Rattle.refusal.proofs.Checks.{both}
use Rattle.binding.specs.Binding.{bound_of, memory_check, params_check, smooth_need}
use Rattle.binding.proofs.Passed.{small}
use Rattle.calls.proofs.Admitted.{smooth_need_is, series_refused, own_refused, params_refused, all_passed, table_checked, Admitted, is_admitted, long_enough}
use Rattle.em_ridge.specs.Ridge as ridge
use Rattle.fit.specs.Calls.{fit_check}
use Rattle.fit.proofs.Ends.{fit_ready, params_checked, fit_own, fit_refused, fit_refused_later, fit_ran}
use Rattle.fit.proofs.fit.Goals.{In_ok-b, After-smooth_need-need, In_ok-memory, In_ok-parameters, In_ok-check, In_err-check}
use Rattle.fit.proofs.fit.Goals as goal

bound : (c : In_ok-b) → bound_of c.args.s c.args.y.now ≡ Ok c.in_ok-b.b
bound c = search rules

-- where the need of memory is known
module _ (c : After-smooth_need-need) where
  series : bound_of c.args.s c.args.y.now ≡ Ok c.in_ok-b.b
  series = search rules

  needed : c.smooth_need-need.result ≡ smooth_need c.args.s c.args.y.now
  needed = smooth_need_is c.args.s c.args.y.now series c.smooth_need-need.ensures

-- where memory passed
module _ (c : In_ok-memory) where
  series-memory : bound_of c.args.s c.args.y.now ≡ Ok c.in_ok-b.b
  series-memory = search rules

  own-memory : fit_own c.args.s c.args.y.now c.args.start c.args.max_iter c.args.tol c.args.work.now c.args.smoothed.now ≡ Passed
  own-memory = table_checked c.args.s c.args.y.now series-memory (smooth_need_is c.args.s c.args.y.now series-memory c.smooth_need-need.ensures) _ _ (search rules)

-- where the parameters passed
module _ (c : In_ok-parameters) where
  series-params : bound_of c.args.s c.args.y.now ≡ Ok c.in_ok-b.b
  series-params = search rules

  own-params : fit_own c.args.s c.args.y.now c.args.start c.args.max_iter c.args.tol c.args.work.now c.args.smoothed.now ≡ Passed
  own-params = table_checked c.args.s c.args.y.now series-params (smooth_need_is c.args.s c.args.y.now series-params c.smooth_need-need.ensures) _ _ (search rules)

  given : params_check c.args.s c.args.start ≡ Passed
  given = search rules

  admitted : Admitted c.args.s c.args.y.now series-params c.args.start
  admitted = is_admitted c.args.s c.args.y.now series-params c.args.start given

-- after 24 and 25
module _ (c : In_ok-check) where
  found : fit_check c.args.start c.args.y.now ≡ Passed
  found = let h = c.check.ensures c.args.start c.args.y.now refl (sym c.sample_variance-variance.ensures) in sym h ∙ search rules

pub returns-in_err-b : goal.returns-in_err-b
returns-in_err-b c =
    let s = c.args in
    let given : c.from_residual.result ≡ Err c.in_err-b.field-0.0 = search rules in
    rw given (fit_refused s.s s.y.now s.start _ _ s.work.now s.smoothed.now (series_refused s.s s.y.now s.start _ (search rules)))

pub smooth_need-need-requires : goal.smooth_need-need-requires
smooth_need-need-requires c = (small c.args.s c.args.y.now (bound (goal.at.smooth_need-need-requires c).In_ok-b)).work

pub memory-requires : goal.memory-requires
memory-requires c = (small c.args.s c.args.y.now (series (goal.at.memory-requires c).After-smooth_need-need)).table

pub returns-in_err-memory : goal.returns-in_err-memory
returns-in_err-memory c =
    let s = c.args in
    let at = (goal.at.returns-in_err-memory c).After-smooth_need-need in
    let given : c.from_residual-in_err-memory.result ≡ Err c.in_err-memory.field-0.0 = search rules in
    rw given (fit_refused s.s s.y.now s.start _ _ s.work.now s.smoothed.now (own_refused s.s s.y.now (series at) s.start _ (table_checked s.s s.y.now (series at) (needed at) _ _ (search rules))))

pub returns-in_err-parameters : goal.returns-in_err-parameters
returns-in_err-parameters c =
    let s = c.args in
    let at = (goal.at.returns-in_err-parameters c).In_ok-memory in
    let given : c.from_residual-in_err-parameters.result ≡ Err c.in_err-parameters.field-0.0 = search rules in
    rw given (fit_refused s.s s.y.now s.start _ _ s.work.now s.smoothed.now (params_refused s.s s.y.now (series-memory at) s.start _ (own-memory at) (search rules)))

pub sample_variance-variance-requires : goal.sample_variance-variance-requires
sample_variance-variance-requires c = (admitted (goal.at.sample_variance-variance-requires c).In_ok-parameters).short

pub returns-in_err-check : goal.returns-in_err-check
returns-in_err-check c =
    let s = c.args in
    let at = (goal.at.returns-in_err-check c).In_ok-parameters in
    let h = c.check.ensures s.start s.y.now refl (sym c.sample_variance-variance.ensures) in
    let given : c.from_residual-in_err-check.result ≡ Err c.in_err-check.field-0.0 = search rules in
    rw given (fit_refused_later s.s s.y.now s.start _ _ s.work.now s.smoothed.now (all_passed s.s s.y.now (series-params at) s.start _ (own-params at) (search rules)) (sym h ∙ search rules))

pub of-sizes-requires : goal.of-sizes-requires
of-sizes-requires c = let a = admitted (goal.at.of-sizes-requires c).In_ok-parameters in record { shape = a.shape; windows_value = a.windows_are_of }

pub run_fit-requires : goal.run_fit-requires
run_fit-requires c =
    let at = (goal.at.run_fit-requires c).In_ok-parameters in
    let a = admitted at in
    let m = both (memory_check (length c.args.work.now) (smooth_need c.args.s c.args.y.now)) (own-params at) in
    record {
      ready = fit_ready c.args.s c.args.y.now c.args.start (given at) c.of-sizes.result c.of-sizes.ensures.counts (found (goal.at.run_fit-requires c).In_ok-check) (ap (λ (x : Float). ridge.small ⊗ x) c.sample_variance-variance.ensures);
      rows = (
        a.rows_of,
        a.short,
        a.some,
        params_checked c.args.s c.args.y.now c.args.start (given at),
        rw c.of-sizes.ensures.powers.1 (omega (arith, a.smooth_need_lem, long_enough _ _ m.0)),
        omega (arith, a.table_need_lem, long_enough _ _ m.1),
      );
    }

pub returns : goal.returns
returns c =
    let s = c.args in
    let at = (goal.at.returns c).In_ok-parameters in
    let ran = c.run_fit.ensures in
    fit_ran s.s s.y.now s.start _ _ s.work.now s.smoothed.now ran.answer
    (ap (λ (x : ℕ). 2 * (c.in_ok-b.b.rows * x)) c.of-sizes.ensures.powers.1 ∙ (admitted at).smooth_need_lem) ran.work ran.smoothed
    (all_passed s.s s.y.now (series-params at) s.start _ (own-params at) (given at)) (found (goal.at.returns c).In_ok-check)
