-- `pattern`: a NaN has the one pattern.
use mathlib.Core.Path.{refl, sym}
use lib.Ieee.{to_bits}
use Rattle.number.proofs.Cases.{is_nan_lem}
use Rattle.number.proofs.pattern.Goals as goal

pub returns-then-is_nan : goal.returns-then-is_nan
unfolding to_bits
returns-then-is_nan c = rw (← is_nan_lem c.args.x (sym c.if-is_nan.ensures.value)) refl
