-- `run_fit` meets its contract: the refusal of the passes, or what the closing pass says at the parameters reached.
use Rattle.std.specs.Prelude.{Ok, Err}
use Prim.Native.Nat.{◌*◌}
use mathlib.Core.Path.{◌≡◌, sym, ap, ◌∙◌}
use native.Mathlib.Omega.{arith}
use borrow.Author.Rules.{rules}
use Rattle.em_step.proofs.Kept.{Good}
use Rattle.calls.proofs.Runs.{all_cleared}
use Rattle.fit.specs.declared.Fitted.{Fitted}
use Rattle.fit.specs.Verdicts.{end_of}
use Rattle.fit.proofs.Ends.{closing_refused, closing_answered, end_good, end_passed, end_refused, table_passed, table_refused, table_fits}
use Rattle.fit.proofs.run_fit.Goals.{In-Ok}
use Rattle.fit.proofs.run_fit.Goals as goal

-- where the passes were not refused
module _ (c : In-Ok) where
  end : end_of c.args.max_iter c.passes.new.state.course ≡ Ok c.in-Ok.end
  end = sym c.end_of.ensures ∙ c.in-Ok.is

  good : Good c.passes.new.state.params c.args.start.now
  good = end_good _ _ _ c.args.start.now c.passes.ensures.state end c.requires.rows.3

pub close-requires : goal.close-requires
close-requires c =
    let g = (good (goal.at.close-requires c).In-Ok).alike in
    let h = c.requires.rows in
    record {
      sizes = (c.requires.ready.labels ∙ sym g.labels, c.requires.ready.order ∙ sym g.order);
      rows = (omega (arith, h.0, g.order), h.1, omega (arith, h.4, c.passes.ensures.rest.0), table_fits _ g h.5, h.2);
    }

pub answered-requires : goal.answered-requires
answered-requires c = (good (goal.at.answered-requires c).In-Ok).checked

pub returns-in_err-loglik-in-Ok : goal.returns-in_err-loglik-in-Ok
returns-in_err-loglik-in-Ok c =
    let at = (goal.at.returns-in_err-loglik-in-Ok c).In-Ok in
    let did = c.passes.ensures in
    let closing = c.close.ensures in
    let given : c.from_residual.result ≡ Err c.in_err-loglik-in-Ok.field-0.0 = search rules in
    let found : c.close.result ≡ Err c.in_err-loglik-in-Ok.field-0.0 = search rules in
    record {
      answer = given ∙ end_passed _ _ _ c.args.start.now did.state (end at) (closing_refused _ c.passes.new.state.params _ _ closing.answer found);
      work = all_cleared (2 * (c.args.n * c.args.sizes.windows)) (2 * (c.args.n * c.args.sizes.windows)) _ _ did.rest.1 closing.work (omega arith);
      smoothed = table_passed _ _ _ c.args.start.now did.state (end at) _ closing.smoothed;
    }

pub returns-in_ok-loglik-in-Ok : goal.returns-in_ok-loglik-in-Ok
returns-in_ok-loglik-in-Ok c =
    let at = (goal.at.returns-in_ok-loglik-in-Ok c).In-Ok in
    let did = c.passes.ensures in
    let closing = c.close.ensures in
    let found : c.close.result ≡ Ok c.in_ok-loglik-in-Ok.loglik = search rules in
    record {
      answer = ap (λ (f : Fitted). Ok f) c.answered.ensures ∙ end_passed _ _ _ c.args.start.now did.state (end at) (closing_answered _ c.passes.new.state.params _ _ closing.answer found);
      work = all_cleared (2 * (c.args.n * c.args.sizes.windows)) (2 * (c.args.n * c.args.sizes.windows)) _ _ did.rest.1 closing.work (omega arith);
      smoothed = table_passed _ _ _ c.args.start.now did.state (end at) _ closing.smoothed;
    }

pub returns-in-Err : goal.returns-in-Err
returns-in-Err c =
    let did = c.passes.ensures in
    let end = sym c.end_of.ensures ∙ c.in-Err.is in
    record {
      answer = end_refused _ _ _ c.args.start.now did.state end;
      work = all_cleared (2 * (c.args.n * c.args.sizes.windows)) (2 * (c.args.n * c.args.sizes.windows)) _ _ did.rest.1 c.clear.ensures (omega arith);
      smoothed = table_refused _ _ _ c.args.start.now did.state end _;
    }
