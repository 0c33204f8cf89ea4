-- `of_pattern`: past infinity's pattern, less its sign, stand the NaNs.
use mathlib.Core.Bool.{Bool, not}
use mathlib.Core.Path.{sym, subst, ◌∙◌}
use borrow.Author.Tests.{lt-ltb, le-ltb}
use lib.Dec.{T}
use lib.Ieee.{binary64, div, of_bits}
use lib.Ieee.Bits.{nan_bits_is, nan_bits_above}
use Rattle.number.proofs.Cases.{is_nan_lem}
use Rattle.number.proofs.of_pattern.Goals as goal

pub returns-then-n-gt9218868437227405312 : goal.returns-then-n-gt9218868437227405312
unfolding div of_bits
returns-then-n-gt9218868437227405312 c = is_nan_lem (of_bits binary64 c.args.n) (sym (nan_bits_is binary64 c.args.n) ∙ nan_bits_above binary64 c.args.n ∙ lt-ltb _ _ c.if-n-gt9218868437227405312.true)

pub float_from_bits-result : goal.float_from_bits-result
float_from_bits-result c = subst (λ (b : Bool). T (not b)) (sym (nan_bits_above binary64 c.args.n ∙ le-ltb _ _ c.if-n-gt9218868437227405312.false)) tt
