-- `MsarParams::new`: the record tidied where the checks pass, else the refusal.
use borrow.Author.Rules.{rules}
use Rattle.params.specs.Built.{built_of}
use Rattle.params.proofs.MsarParams.new.Goals as goal

pub returns-in_err-check : goal.returns-in_err-check
unfolding built_of
returns-in_err-check c = search rules

pub returns : goal.returns
unfolding built_of
returns c = search rules
