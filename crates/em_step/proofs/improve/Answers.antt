-- Means, coefficients and variances, each found at what was found before it, or refused.
use Prim.Native.Nat.{◌≤◌}
use mathlib.Core.Path.{◌∙◌}
use native.Mathlib.Omega.{arith}
use borrow.Author.Rules.{rules}
use Rattle.em_variances.proofs.Sums.{variances_are}
use Rattle.em_step.specs.Step.{with_means, with_ar}
use Rattle.em_step.proofs.Ways.{means_refused, ar_refused, all_improved}
use Rattle.em_step.proofs.improve.Goals as goal

pub returns-in_err-q : goal.returns-in_err-q
returns-in_err-q c =
    let refused = means_refused _ _ _ c.args.q.now c.in_err-q.ensures in
    search (rules, refused)

pub returns-in_err-q-2 : goal.returns-in_err-q-2
returns-in_err-q-2 c =
    let refused = ar_refused _ _ _ c.args.q.now c.in_ok-q.ensures c.in_err-q-2.ensures in
    search (rules, refused)

pub returns : goal.returns
returns c =
    let z = c.args.smoothed.now.sizes in
    let q = with_ar (with_means c.args.q.now c.in_ok-q.field-0) c.in_ok-q-2.field-0 in
    let r = c.requires in
    let high : q.means_count ≤ 16 = omega (arith, r.labels, z.shape.high) in
    let found = variances_are q (omega (arith, r.labels, z.shape.low)) high (omega (arith, r.order, z.few_lags)) _ _ _ _ r.floor_is in
    all_improved _ _ _ c.args.q.now c.in_ok-q.ensures c.in_ok-q-2.ensures (c.new_variances-q.ensures ∙ found)
