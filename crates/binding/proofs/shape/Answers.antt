-- `shape` meets its contract: 20 where the record does not match the spec.
use Rattle.binding.proofs.shape.Goals as goal

pub returns-then-matches_spec : goal.returns-then-matches_spec
returns-then-matches_spec c = rw (← c.matches_spec.ensures, c.if-matches_spec.true)

pub returns : goal.returns
returns c = rw (← c.matches_spec.ensures, c.if-matches_spec.false)
