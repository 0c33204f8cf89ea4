-- `exp_up`: n, t and y are those of the definition, and n added to y's exponent leaves a number or infinity.
use mathlib.Core.Bool.{false}
use mathlib.Core.Path.{◌∙◌}
use Prim.Native.Nat.{◌≤◌}
use native.Mathlib.Omega.{arith}
use Rattle.exp.specs.Exp.{signed, exp_whole}
use Rattle.rounding.proofs.Pattern.{number_pattern}
use Rattle.exp.proofs.Reduced.{Made, Ready, far_sized, far_few, far_ready, far_is, scale_up}
use Rattle.exp.proofs.Over.{made_sum}
use Rattle.exp.proofs.exp_up.Goals.{After-exp_part-y, After-whole_part-n}
use Rattle.exp.proofs.exp_up.Goals as goal

few : (c : After-whole_part-n) → c.whole_part-n.result ≤ 1120
unfolding signed exp_whole
few c = far_few false c.args.x c.whole_part-n.result c.requires.0 c.whole_part-n.ensures

made : (c : After-exp_part-y) → Made false c.args.x c.whole_part-n.result c.of_whole-t.result c.exp_part-y.result
unfolding signed exp_whole
made c = record { n_is = c.whole_part-n.ensures; t_is = c.of_whole-t.ensures; y_is = c.exp_part-y.ensures }

few-y : (c : After-exp_part-y) → c.whole_part-n.result ≤ 1120
unfolding signed exp_whole
few-y c = far_few false c.args.x c.whole_part-n.result c.requires.0 c.whole_part-n.ensures

y-ready : (c : After-exp_part-y) → Ready c.exp_part-y.result
y-ready c = far_ready c.requires.0 (made c)

pub whole_part-n-requires : goal.whole_part-n-requires
unfolding signed
whole_part-n-requires c = let w = (far_sized false c.args.x c.requires.0).few in (w.from, w.within)

pub of_whole-t-requires : goal.of_whole-t-requires
of_whole-t-requires c = omega (arith, few c)

pub float_to_bits-result : goal.float_to_bits-result
float_to_bits-result c = (y-ready c).number

pub overflow_mul-result : goal.overflow_mul-result
overflow_mul-result c = omega (arith, few-y c)

pub overflow_add-result : goal.overflow_add-result
overflow_add-result c = let m = (y-ready c).exponent in omega (arith, few-y c)

pub float_from_bits-result : goal.float_from_bits-result
float_from_bits-result c = let start = c in number_pattern _ (made_sum start.requires.0 start.requires.1 (made c))

pub returns : goal.returns
returns c = scale_up c.exp_part-y.result c.whole_part-n.result ∙ far_is (made c)
