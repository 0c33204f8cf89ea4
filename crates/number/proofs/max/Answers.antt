-- `max`: each way out is the line of the definition that its tests choose.
use mathlib.Core.Path.{◌≡◌, sym}
use mathlib.Core.Bool.{false}
use lib.Ieee.{is_nan}
use Rattle.number.specs.Number.{max_of}
use Rattle.number.proofs.Cases.{equal_zeros}
use Rattle.number.proofs.max.Goals.{Else-is_nan-2}
use Rattle.number.proofs.max.Goals as goal

-- past the first two tests neither is a NaN
numbers : (c : Else-is_nan-2) → let a = c.args in (is_nan a.x ≡ false) × (is_nan a.y ≡ false)
numbers c = (sym c.if-is_nan.ensures.value, sym c.if-is_nan-2.ensures.value)

pub returns-then-is_nan : goal.returns-then-is_nan
unfolding max_of
returns-then-is_nan c = rw (← c.if-is_nan.ensures.value)

pub returns-then-is_nan-2 : goal.returns-then-is_nan-2
unfolding max_of
returns-then-is_nan-2 c = rw (← c.if-is_nan.ensures.value, ← c.if-is_nan-2.ensures.value)

pub returns-then-x-y : goal.returns-then-x-y
unfolding max_of
returns-then-x-y c = let n = numbers c.before in simp (n.0, n.1, c.if-x-y.true)

pub returns-then-y-x : goal.returns-then-y-x
unfolding max_of
returns-then-y-x c = let n = numbers c.before.before in simp (n.0, n.1, c.if-x-y.false, c.if-y-x.true)

pub returns-then-x : goal.returns-then-x
returns-then-x c = let n = numbers c.before.before.before in equal_zeros _ _ n.0 n.1 c.if-x-y.false c.if-y-x.false c.if-x.true

pub returns : goal.returns
unfolding max_of
returns c = let n = numbers c.before.before.before in simp (n.0, n.1, c.if-x-y.false, c.if-y-x.false, c.if-x.false)
