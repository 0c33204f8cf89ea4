use Prim.Native.Nat.{ℕ, suc, ◌+◌, ◌*◌, ◌-◌, ◌/◌, ◌<◌}
use mathlib.Core.Path.{◌≡◌, subst}
use native.Mathlib.Nat.{mod-lt}
use native.Mathlib.Omega.{arith}
use Rattle.window.proofs.Arithmetic.{divided_none, divided_more}
use Rattle.em_means.proofs.Lags.{left_is, phi_within, row_now, row_lag}
use Rattle.em_means.proofs.sensitivities.Goals.{In-loop-l}
use Rattle.em_means.proofs.sensitivities.Goals as goal

-- the lag's label
abbrev r : In-loop-l → ℕ
r c = c.loop-l.rest - c.loop-l.rest / c.args.sizes.k * c.args.sizes.k

label-in : (c : In-loop-l) → r c < c.args.sizes.k
label-in c = subst (λ (x : ℕ). x < c.args.sizes.k) (left_is _ _) (mod-lt _ (omega (arith, c.requires.0)))

pub loop-l-init : goal.loop-l-init
loop-l-init c =
    let z = c.args.sizes in
    (divided_more _ _ 0 (divided_none _ _), row_now z.k c.args.a c.args.phis.now c.requires.1 c.requires.2 c.requires.0 z.shape.high)

pub overflow_mul-row : goal.overflow_mul-row
overflow_mul-row c = omega (arith, phi_within c.args.sizes _ _ c.loop-l-test.true c.requires.0)

pub overflow_add-row : goal.overflow_add-row
overflow_add-row c = omega (arith, phi_within c.args.sizes _ _ c.loop-l-test.true c.requires.0)

pub offset_bounds-phis-l : goal.offset_bounds-phis-l
offset_bounds-phis-l c = omega (arith, phi_within c.args.sizes _ _ c.loop-l-test.true c.requires.0)

pub bounds-phis-l : goal.bounds-phis-l
bounds-phis-l c = phi_within c.args.sizes _ _ c.loop-l-test.true c.requires.0

pub loop-l-preserved : goal.loop-l-preserved
loop-l-preserved c =
    let z = c.args.sizes in
    let w = c.loop-l in
    let next : suc w.l + 1 ≡ suc (w.l + 1) = omega arith in (
      rw next at (divided_more _ _ _ w.invariant.0),
      row_lag z.k c.args.a c.args.phis.now c.requires.1 w.l w.invariant.1 w.invariant.0 (left_is _ _) (label-in (goal.at.loop-l-preserved c).In-loop-l) z.shape.high,
    )
