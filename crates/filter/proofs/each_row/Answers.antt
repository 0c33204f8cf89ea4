use Prim.Native.Nat.{◌<◌}
use mathlib.Core.Path.{◌≡◌, sym, ◌∙◌}
use native.Mathlib.Omega.{arith}
use Rattle.filter.specs.Steps.{Weighed}
use Rattle.filter.proofs.Start.{windows_are, power_is, counted}
use Rattle.filter.proofs.Kept.{kept_none, kept_bad, kept_more, answer_is, all_held, refusal_stays}
use Rattle.filter.proofs.each_row.Goals.{After-weigh_row-likelihood, Start}
use Rattle.filter.proofs.each_row.Goals as goal

positive : (c : Start) → 0 < c.args.q.now.means_count
positive c = omega (arith, c.args.sizes.shape.low, c.requires.sizes.0)

-- after the weights of a row
module _ (c : After-weigh_row-likelihood) where
  weighed : Weighed c.args.q.now c.args.y.now c.args.sizes.windows c.loop-i.i c.loop-i.predicted c.weigh_row-likelihood.new.weights c.weigh_row-likelihood.result
  weighed = c.weigh_row-likelihood.ensures

pub loop-i-init : goal.loop-i-init
loop-i-init c =
    kept_none _ _ _ _ _ _ _ _ (positive (goal.at.loop-i-init c).Start) (windows_are c.args.q.now c.args.sizes c.requires.sizes) _ _ c.first_row.ensures

pub returns-then-not-is_usable : goal.returns-then-not-is_usable
returns-then-not-is_usable c =
    let kept = c.loop-i.invariant in
    let bad = kept_bad _ _ _ _ _ _ _ _ (positive (goal.at.returns-then-not-is_usable c).Start) (windows_are c.args.q.now c.args.sizes c.requires.sizes) _ _ _ _ _ _ kept (weighed (goal.at.returns-then-not-is_usable c).After-weigh_row-likelihood) (omega arith) (sym c.is_usable.ensures ∙ c.if-not-is_usable.true) in
    record { answer = rw bad; same = (kept.long, kept.rest); rows = λ e. absurd (refusal_stays e) }

pub advance-requires : goal.advance-requires
advance-requires c =
    record { sizes = c.requires.sizes; rows = (omega arith, omega (arith, c.requires.rows.0, c.requires.rows.1), omega (arith, c.loop-i.invariant.long, c.requires.rows.2)) }

pub loop-i-preserved : goal.loop-i-preserved
loop-i-preserved c =
    let l = c.loop-i in
    let done = c.advance.ensures in
    let q = c.args.q.now in
    let s = c.args.sizes in
    let e = c.requires.sizes in
    kept_more _ q _ _ _ _ _ _ (positive (goal.at.loop-i-preserved c).Start) (windows_are q s e) _ _ _ _ _ _ l.invariant (weighed (goal.at.loop-i-preserved c).After-weigh_row-likelihood) _ _ _ _ _ _
    (sym c.is_usable.ensures ∙ c.if-not-is_usable.false) c.requires.steps (power_is q s e)
    done.weights done.predicted (counted q s e) done.work (omega arith) c.requires.rows.2 _ c.log-loglik.ensures

pub returns : goal.returns
returns c =
    let all : c.loop-i.i ≡ c.args.n = omega arith in
    let kept = c.loop-i.invariant in
    record { answer = answer_is _ c.args.q.now _ _ _ _ _ _ _ _ _ _ kept all; same = (kept.long, kept.rest); rows = λ e. all_held _ c.args.q.now _ _ _ _ _ _ _ _ _ _ kept all }
