-- `check` meets its contract: 24, then 25.
use borrow.Author.Tests.{eq-eqb, ne_eqb}
use Rattle.fit.proofs.Ends.{order_zero, no_variance, a_variance}
use mathlib.Core.Path.{sym, ◌∙◌}
use Rattle.fit.proofs.check.Goals as goal

pub returns-then-order-eq0 : goal.returns-then-order-eq0
returns-then-order-eq0 c = λ q y o v. order_zero q y o v (eq-eqb _ _ c.if-order-eq0.true)

pub returns-then-not-is_usable : goal.returns-then-not-is_usable
returns-then-not-is_usable c = λ q y o v. no_variance q y o v (ne_eqb _ _ c.if-order-eq0.false) (sym c.is_usable.ensures ∙ c.if-not-is_usable.true)

pub returns : goal.returns
returns c = λ q y o v. a_variance q y o v (ne_eqb _ _ c.if-order-eq0.false) (sym c.is_usable.ensures ∙ c.if-not-is_usable.false)
