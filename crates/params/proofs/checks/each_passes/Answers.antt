-- `each_passes`: the refusal of the first value that fails the test, or none.
use mathlib.Core.Path.{refl, ap, ◌∙◌}
use Rattle.number.specs.Table.{◌!◌}
use Rattle.refusal.specs.Checks.{Failed}
use Rattle.refusal.proofs.Each.{each_first}
use Rattle.params.proofs.checks.each_passes.Goals as goal

pub returns-then-i-n : goal.returns-then-i-n
returns-then-i-n g c = λ r h. ap (λ w. Failed w) (h _ _ _ c.refused.ensures) ∙ (each_first _ (λ j. r j (c.args.values.now ! j)) _ (λ j. refl) _ c.first_failing-i.ensures).0 c.if-i-n.true

pub returns : goal.returns
returns g c = λ r h. (each_first _ (λ j. r j (c.args.values.now ! j)) _ (λ j. refl) _ c.first_failing-i.ensures).1 c.if-i-n.false
