-- `log_normal`: the significand has a number's pattern, and f chooses the case.
use native.Mathlib.Omega.{arith}
use borrow.Author.Tests.{lt-ltb, le-ltb}
use Rattle.rounding.proofs.Pattern.{number_pattern}
use Rattle.logarithm.specs.Log.{log_normal}
use Rattle.logarithm.proofs.log_normal.Goals as goal

pub float_from_bits-f : goal.float_from_bits-f
float_from_bits-f c = number_pattern _ (omega arith)

pub returns-then-m-lt3 : goal.returns-then-m-lt3
unfolding log_normal
returns-then-m-lt3 c = simp (lt-ltb _ _ c.if-m-lt3.true) c.log_close.ensures

pub returns : goal.returns
unfolding log_normal
returns c = simp (le-ltb _ _ c.if-m-lt3.false) c.log_far.ensures
