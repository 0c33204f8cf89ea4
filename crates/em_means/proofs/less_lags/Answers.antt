use mathlib.Core.Path.{◌≡◌, refl, ap}
use native.Mathlib.Omega.{arith}
use Rattle.window.specs.declared.Time.{Time}
use Rattle.em_means.specs.Steps.{less_lags_to, less_lags_at}
use Rattle.em_means.proofs.Lags.{phi_within, lag_less}
use Rattle.em_means.proofs.less_lags.Goals.{In-loop-l}
use Rattle.em_means.proofs.less_lags.Goals as goal

pub loop-l-init : goal.loop-l-init
unfolding less_lags_to
loop-l-init c = refl

pub offset_bounds-phis-l : goal.offset_bounds-phis-l
offset_bounds-phis-l c = omega (arith, phi_within c.args.smoothed.now.sizes _ _ c.loop-l-test.true c.requires.0)

pub bounds-phis-l : goal.bounds-phis-l
bounds-phis-l c = phi_within c.args.smoothed.now.sizes _ _ c.loop-l-test.true c.requires.0

pub loop-l-preserved : goal.loop-l-preserved
loop-l-preserved c = lag_less _ _ _ _ _ _ c.loop-l.invariant

pub returns : goal.returns
unfolding less_lags_at
returns c =
    let all : c.loop-l.l ≡ c.args.smoothed.now.sizes.order = omega arith in
    let time = ap (λ (t : Time). t.0) c.time_of-at.ensures in
    rw (time, all) at c.loop-l.invariant
