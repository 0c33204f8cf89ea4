-- `verdict_of` meets its contract: 26, converged, or going.
use Rattle.fit.proofs.OnePass.{not_finite, converges, goes}
use mathlib.Core.Path.{sym, ◌∙◌}
use Rattle.fit.proofs.verdict_of.Goals as goal

pub returns-then-not-is_finite : goal.returns-then-not-is_finite
returns-then-not-is_finite c = let a = c.args in not_finite a.tol a.i a.last a.loglik (sym c.is_finite.ensures ∙ c.if-not-is_finite.true)

pub returns-then-stops : goal.returns-then-stops
returns-then-stops c = let a = c.args in converges a.tol a.i a.last a.loglik (sym c.is_finite.ensures ∙ c.if-not-is_finite.false) (sym c.stops.ensures ∙ c.if-stops.true)

pub returns : goal.returns
returns c = let a = c.args in goes a.tol a.i a.last a.loglik (sym c.is_finite.ensures ∙ c.if-not-is_finite.false) (sym c.stops.ensures ∙ c.if-stops.false)
