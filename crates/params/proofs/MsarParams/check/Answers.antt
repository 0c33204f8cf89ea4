-- `MsarParams::check`: the counts first, then the four parts, one before another.
use borrow.Author.Rules.{rules}
use native.Mathlib.Omega.{arith}
use Rattle.params.proofs.Order.{few, many, long, Sized, in_parts}
use Rattle.params.proofs.MsarParams.check.Goals.{Else-self-gt7}
use Rattle.params.proofs.MsarParams.check.Goals as goal

sized : (c : Else-self-gt7) → Sized c.args.self
sized c = record { two = c.if-self-lt2.false; sixteen = omega (arith, c.if-self-gt16.false); seven = c.if-self-gt7.false }

pub returns-then-self-lt2 : goal.returns-then-self-lt2
returns-then-self-lt2 c = few _ c.if-self-lt2.true

pub returns-then-self-gt16 : goal.returns-then-self-gt16
returns-then-self-gt16 c = many _ c.if-self-lt2.false c.if-self-gt16.true

pub returns-then-self-gt7 : goal.returns-then-self-gt7
returns-then-self-gt7 c = long _ c.if-self-lt2.false c.if-self-gt16.false c.if-self-gt7.true

pub returns-in_err-means : goal.returns-in_err-means
returns-in_err-means c = rw (in_parts _ (sized (goal.at.returns-in_err-means c).Else-self-gt7)) (search rules)

pub returns-in_err-transition : goal.returns-in_err-transition
returns-in_err-transition c = rw (in_parts _ (sized (goal.at.returns-in_err-transition c).Else-self-gt7)) (search rules)

pub returns-in_err-ar : goal.returns-in_err-ar
returns-in_err-ar c = rw (in_parts _ (sized (goal.at.returns-in_err-ar c).Else-self-gt7)) (search rules)

pub returns : goal.returns
returns c = rw (in_parts _ (sized (goal.at.returns c).Else-self-gt7)) (search rules)
