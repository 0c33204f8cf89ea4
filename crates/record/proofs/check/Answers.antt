-- `check` meets its contract: what binding refuses with is the check's refusal.
use borrow.Author.Rules.{rules}
use Rattle.binding.specs.Binding.{bound_of}
use Rattle.record.proofs.check.Goals as goal

pub returns-in_err-bind : goal.returns-in_err-bind
unfolding bound_of
returns-in_err-bind c = search rules

pub returns : goal.returns
unfolding bound_of
returns c = search rules
