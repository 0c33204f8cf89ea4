-- `pass` meets its contract: by the verdict, and where it goes on by the step.
use Prim.Native.Nat.{◌<◌, ◌*◌}
use mathlib.Core.Path.{◌≡◌, ◌∙◌}
use native.Mathlib.Omega.{arith}
use lib.ListN.{length, drop}
use Rattle.params.specs.declared.MsarParams.{MsarParams}
use Rattle.em_step.specs.Step.{step_of}
use Rattle.filter.specs.Filter.{row_count}
use Rattle.fit.specs.Fit.{smoothed_rows}
use Rattle.params.specs.Parameters.{k}
use Rattle.rows.specs.Rows.{windows_of}
use Rattle.filter.proofs.Start.{windows_are}
use Rattle.fit.proofs.OnePass.{pass_converged, pass_refused, pass_stepped, went_on, went_out, step_is, rest_kept}
use Rattle.fit.proofs.pass.Goals.{Start, In-Going, After-step}
use Rattle.fit.proofs.pass.Goals as goal

module _ (c : Start) where
  sized : (c.args.sizes.k ≡ c.args.state.now.params.means_count) × (c.args.sizes.order ≡ c.args.state.now.params.order)
  sized = (c.requires.ready.labels, c.requires.ready.order)

  windows : c.args.sizes.windows ≡ windows_of c.args.state.now.params
  windows = windows_are c.args.state.now.params c.args.sizes sized

  positive : 0 < k c.args.state.now.params
  positive = omega (arith, c.args.sizes.shape.low, c.requires.ready.labels)

pub judge-verdict-requires : goal.judge-verdict-requires
judge-verdict-requires c =
    let h = c.requires.rows in
    record { sizes = sized (goal.at.judge-verdict-requires c).Start; rows = (h.0, h.1, h.3, h.4) }

pub returns-in-Converged : goal.returns-in-Converged
returns-in-Converged c =
    let did = c.judge-verdict.ensures in
    record { state = pass_converged _ _ _ c.args.state.now.params _ did.verdict c.in-Converged.is; rest = did.rest }

pub returns-in-Refused : goal.returns-in-Refused
returns-in-Refused c =
    let did = c.judge-verdict.ensures in
    record { state = pass_refused _ _ _ c.args.state.now.params _ did.verdict c.in-Refused.is; rest = did.rest }

pub smooth-requires : goal.smooth-requires
smooth-requires c =
    let h = c.requires.rows in
    record { sizes_value = sized (goal.at.smooth-requires c).Start; rows = (h.2, omega (arith, h.3, c.judge-verdict.ensures.rest.0)) }

-- after the step
module _ (c : After-step) where
  abbrev q : MsarParams
  q = c.args.state.now.params

  are : c.args.sizes.windows ≡ windows_of q
  are = windows_are q c.args.sizes (c.requires.ready.labels, c.requires.ready.order)

  step : c.step.result ≡ step_of c.args.y.now (row_count q c.args.y.now) (smoothed_rows q c.args.y.now) q
  step =
      let positive : 0 < k q = omega (arith, c.args.sizes.shape.low, c.requires.ready.labels) in
      step_is q _ _ _ positive c.requires.ready.lagged c.requires.rows.0 are _ _ (c.judge-verdict.ensures.rows c.in-Going.is) c.smooth.ensures c.step.ensures

pub returns-in-Ok : goal.returns-in-Ok
returns-in-Ok c =
    let at = (goal.at.returns-in-Ok c).After-step in
    let did = c.judge-verdict.ensures in
    record {
      state = pass_stepped _ _ _ c.args.state.now.params _ did.verdict c.in-Going.is (step at) (went_on _ _ _ c.requires.going c.in-Ok.is);
      rest = (c.smooth.ensures.long ∙ did.rest.0, rest_kept c.args.state.now.params _ _ _ _ _ (are at) c.smooth.ensures did.rest.1);
    }

pub returns-in-Err : goal.returns-in-Err
returns-in-Err c =
    let at = (goal.at.returns-in-Err c).After-step in
    let did = c.judge-verdict.ensures in
    record {
      state = pass_stepped _ _ _ c.args.state.now.params _ did.verdict c.in-Going.is (step at) (went_out _ _ _ c.in-Err.is);
      rest = (c.smooth.ensures.long ∙ did.rest.0, rest_kept c.args.state.now.params _ _ _ _ _ (are at) c.smooth.ensures did.rest.1);
    }
