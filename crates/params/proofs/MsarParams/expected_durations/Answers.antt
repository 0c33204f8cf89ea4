-- `expected_durations`: the durations where the checks pass, else the refusal.
use borrow.Author.Rules.{rules}
use Rattle.params.specs.Durations.{durations_of}
use Rattle.params.proofs.Within.{within}
use Rattle.params.proofs.MsarParams.expected_durations.Goals as goal

pub returns-in_err-check : goal.returns-in_err-check
unfolding durations_of
returns-in_err-check c = search rules

pub stays-requires : goal.stays-requires
stays-requires c = (within c.args.self (search rules)).means

pub returns : goal.returns
unfolding durations_of
returns c = search rules
