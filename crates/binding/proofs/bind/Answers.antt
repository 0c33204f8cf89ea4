-- `bind` meets its contract: the spec, the series, and the counts that follow from both.
use Prim.Native.Nat.{◌<◌, suc, ◌^◌}
use mathlib.Core.Path.{◌≡◌}
use native.Mathlib.Omega.{arith}
use borrow.Author.Rules.{rules}
use Rattle.spec.specs.Spec.{spec_check, window_count}
use Rattle.refusal.specs.Checks.{Passed}
use Rattle.refusal.proofs.Checks.{before_ok}
use Rattle.window.proofs.Shape.{order_at_most_7, power_of}
use Rattle.binding.specs.Binding.{bound_check, bound_of}
use Rattle.binding.proofs.Passed.{shape_of, Fits, fits, bound_check_lem}
use Rattle.binding.proofs.bind.Goals.{In_ok-windows, In_ok-series}
use Rattle.binding.proofs.bind.Goals as goal

-- the spec passed, with its window count
counted : (c : In_ok-windows) → (spec_check c.args.s.k_regimes c.args.s.order ≡ Passed) × (c.in_ok-windows.windows ≡ c.args.s.k_regimes ^ suc c.args.s.order)
unfolding window_count
counted c = before_ok (spec_check c.args.s.k_regimes c.args.s.order) (search rules)

counted-later : (c : In_ok-series) → (spec_check c.args.s.k_regimes c.args.s.order ≡ Passed) × (c.in_ok-windows.windows ≡ c.args.s.k_regimes ^ suc c.args.s.order)
unfolding window_count
counted-later c = before_ok (spec_check c.args.s.k_regimes c.args.s.order) (search rules)

passed : (c : In_ok-series) → bound_check c.args.s c.args.y.now ≡ Passed
passed c = bound_check_lem _ _ (counted-later c).0 (search rules)

bound : (c : In_ok-series) → Fits c.args.s c.args.y.now
bound c = fits _ _ (passed c)

pub returns-in_err-windows : goal.returns-in_err-windows
unfolding window_count bound_of bound_check
returns-in_err-windows c = search rules

pub series-requires : goal.series-requires
series-requires c = let s = shape_of _ _ (counted c).0 in order_at_most_7 _ _ s.low s.few

pub returns-in_err-series : goal.returns-in_err-series
unfolding bound_of bound_check
returns-in_err-series c = rw ((counted (goal.at.returns-in_err-series c).In_ok-windows).0) (search rules)

pub overflow_sub-result : goal.overflow_sub-result
overflow_sub-result c = omega (arith, (bound (goal.at.overflow_sub-result c).In_ok-series).longer)

pub nonzero_div-result : goal.nonzero_div-result
nonzero_div-result c = omega (arith, (bound (goal.at.nonzero_div-result c).In_ok-series).shape.low)

pub returns : goal.returns
unfolding bound_of
returns c =
    let at = (goal.at.returns c).In_ok-series in
    let windows = (counted-later at).1 in
    let pos : 0 < c.args.s.k_regimes = omega (arith, (bound at).shape.low) in
    rw (passed at, power_of c.args.s.order pos windows, windows)
