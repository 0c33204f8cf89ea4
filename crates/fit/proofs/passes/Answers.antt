-- `passes` meets its contract: as long as they go on, the state is that after one pass more.
use mathlib.Core.Path.{◌≡◌, refl, ap, ◌∙◌}
use native.Mathlib.Omega.{arith}
use Rattle.em_step.specs.Ready.{Ready}
use Rattle.em_step.proofs.Kept.{Good, still_ready}
use Rattle.fit.specs.Fit.{passes_to}
use Rattle.fit.proofs.Going.{begins, one_more, converged_stays, refused_stays, going_good}
use Rattle.fit.proofs.passes.Goals.{In-Going}
use Rattle.fit.proofs.passes.Goals as goal

-- a turn of the loop, at parameters that passed their checks
module _ (c : In-Going) where
  good : Good c.loop-i.state.params c.args.state.now.params
  good = going_good c.args.state.now.params _ _ c.requires.rows.3 _ c.loop-i.invariant.0 c.in-Going.is

  ready : Ready c.loop-i.state.params c.args.sizes c.args.y.now c.args.floor
  ready = still_ready good.alike c.requires.ready

pub loop-i-init : goal.loop-i-init
loop-i-init c = (begins _ _ _ c.requires.begun.0 c.requires.begun.1, refl, refl)

pub returns-in-Converged : goal.returns-in-Converged
returns-in-Converged c =
    let inv = c.loop-i.invariant in
    record { state = converged_stays _ _ _ _ inv.0 c.in-Converged.is (omega arith); rest = (inv.1, inv.2) }

pub returns-in-Refused : goal.returns-in-Refused
returns-in-Refused c =
    let inv = c.loop-i.invariant in
    record { state = refused_stays _ _ _ _ inv.0 c.in-Refused.is (omega arith); rest = (inv.1, inv.2) }

pub pass-requires : goal.pass-requires
pass-requires c =
    let at = (goal.at.pass-requires c).In-Going in
    let h = c.requires.rows in
    record { ready = ready at; rows = (omega (arith, h.0, (good at).alike.order), h.1, h.2, omega (arith, h.4, c.loop-i.invariant.1), omega (arith, c.ranges.max_iter.fits)); going = c.in-Going.is }

pub loop-i-preserved : goal.loop-i-preserved
loop-i-preserved c =
    let inv = c.loop-i.invariant in
    let did = c.pass.ensures in
    (one_more _ _ _ _ inv.0 c.in-Going.is did.state, did.rest.0 ∙ inv.1, did.rest.1 ∙ inv.2)

pub returns : goal.returns
returns c =
    let inv = c.loop-i.invariant in
    let all : c.loop-i.i ≡ c.args.max_iter = omega arith in
    record { state = inv.0 ∙ ap (passes_to _ _ c.args.state.now.params) all; rest = (inv.1, inv.2) }
