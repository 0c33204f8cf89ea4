-- `whole_part`: the digits of the pattern, less those behind the point.
use mathlib.Core.Path.{sym, subst}
use native.Mathlib.Omega.{arith}
use lib.Dec.{T}
use Rattle.rounding.proofs.Intervals.{within_number}
use Rattle.exp.proofs.Cut.{cut}
use Rattle.exp.proofs.whole_part.Goals as goal

pub float_to_bits-b : goal.float_to_bits-b
float_to_bits-b c = within_number c.args.v 2239 2 c.requires.1

pub overflow_sub-result : goal.overflow_sub-result
overflow_sub-result c = let h = cut c.args.v (subst T (sym c.well_formed.0.1) tt) c.requires.0 c.requires.1 in omega arith

pub overflow_shr-result : goal.overflow_shr-result
overflow_shr-result c = let h = cut c.args.v (subst T (sym c.well_formed.0.1) tt) c.requires.0 c.requires.1 in omega arith

pub returns : goal.returns
returns c = (cut c.args.v (subst T (sym c.well_formed.0.1) tt) c.requires.0 c.requires.1).whole
