-- `later_row` meets its contract: the row of the rule at this order.
use mathlib.Core.Path.{sym, ◌∙◌}
use Rattle.prediction.proofs.Rules.{row_mixed, row_stepped}
use Rattle.prediction.proofs.later_row.Goals as goal

pub returns-then-mixes : goal.returns-then-mixes
returns-then-mixes c = row_mixed _ _ _ _ _ _ _ _ (sym c.mixes.ensures ∙ c.if-mixes.true) c.requires.3 c.mixed_row.ensures

pub returns-else-mixes : goal.returns-else-mixes
returns-else-mixes c = row_stepped _ _ _ _ _ _ _ _ (sym c.mixes.ensures ∙ c.if-mixes.false) c.stepped_row.ensures
