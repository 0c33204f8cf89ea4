-- `exp_down`: n, t and y are those of the definition, and n taken from y's exponent, in one step or in two, leaves a number.
use mathlib.Core.Bool.{true}
use mathlib.Core.Path.{◌∙◌}
use Prim.Native.Nat.{◌≤◌}
use native.Mathlib.Omega.{arith}
use Rattle.exp.specs.Exp.{signed, exp_whole}
use Rattle.rounding.proofs.Pattern.{number_pattern}
use Rattle.exp.proofs.Reduced.{Made, Ready, far_sized, far_few, far_ready, far_is, scale_down, scale_far_down}
use Rattle.exp.proofs.exp_down.Goals.{After-exp_part-y, After-whole_part-n}
use Rattle.exp.proofs.exp_down.Goals as goal

few : (c : After-whole_part-n) → c.whole_part-n.result ≤ 1120
unfolding signed exp_whole
few c = far_few true c.args.x c.whole_part-n.result c.requires c.whole_part-n.ensures

made : (c : After-exp_part-y) → Made true c.args.x c.whole_part-n.result c.of_whole-t.result c.exp_part-y.result
unfolding signed exp_whole
made c = record { n_is = c.whole_part-n.ensures; t_is = c.of_whole-t.ensures; y_is = c.exp_part-y.ensures }

few-y : (c : After-exp_part-y) → c.whole_part-n.result ≤ 1120
unfolding signed exp_whole
few-y c = far_few true c.args.x c.whole_part-n.result c.requires c.whole_part-n.ensures

y-ready : (c : After-exp_part-y) → Ready c.exp_part-y.result
y-ready c = far_ready c.requires (made c)

pub whole_part-n-requires : goal.whole_part-n-requires
unfolding signed
whole_part-n-requires c = let w = (far_sized true c.args.x c.requires).few in (w.from, w.within)

pub of_whole-t-requires : goal.of_whole-t-requires
of_whole-t-requires c = omega (arith, few c)

pub float_to_bits-b : goal.float_to_bits-b
float_to_bits-b c = (y-ready c).number

pub overflow_mul-result : goal.overflow_mul-result
overflow_mul-result c = omega (arith, few-y c.before)

pub overflow_sub-result : goal.overflow_sub-result
overflow_sub-result c = let m = (y-ready c.before).exponent in omega arith

pub float_from_bits-result : goal.float_from_bits-result
float_from_bits-result c = let m = (y-ready c.before).exponent in number_pattern _ (omega arith)

pub returns-then-n-le1021 : goal.returns-then-n-le1021
returns-then-n-le1021 c = scale_down c.exp_part-y.result c.whole_part-n.result c.if-n-le1021.true ∙ far_is (made c.before)

pub overflow_mul-result-2 : goal.overflow_mul-result-2
overflow_mul-result-2 c = omega (arith, few-y c.before)

pub overflow_sub-result-3 : goal.overflow_sub-result-3
overflow_sub-result-3 c = let m = (y-ready c.before).exponent in omega (arith, few-y c.before)

pub float_from_bits-result-2 : goal.float_from_bits-result-2
float_from_bits-result-2 c = let m = (y-ready c.before).exponent in number_pattern _ (omega arith)

pub returns : goal.returns
returns c = scale_far_down c.exp_part-y.result c.whole_part-n.result c.if-n-le1021.false ∙ far_is (made c.before)
