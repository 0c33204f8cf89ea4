-- `stationary_shares` meets its contract: the parameter checks, then the shares.
use native.Mathlib.Omega.{arith}
use borrow.Author.Rules.{rules}
use Rattle.stationary.specs.Stationary.{shares_of}
use Rattle.stationary.proofs.Counts.{counted}
use Rattle.stationary.proofs.stationary_shares.Goals as goal

pub returns-in_err-check : goal.returns-in_err-check
unfolding shares_of
returns-in_err-check c = search rules

pub solved_shares-requires : goal.solved_shares-requires
solved_shares-requires c = let h = counted c.args.q (search rules) in (h.within, omega arith)

pub returns : goal.returns
unfolding shares_of
returns c = search rules
