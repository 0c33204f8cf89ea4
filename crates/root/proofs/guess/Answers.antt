-- `guess`: the patterns are numbers, and the result lies below 2^54; that it is near a root is not proved.
use Rattle.std.proofs.Common.{◌-◌, ◌/◌, arith}
use Rattle.rounding.proofs.Pattern.{number_pattern}
use Rattle.root.proofs.guess.Goals as goal

pub float_from_bits-v : goal.float_from_bits-v
float_from_bits-v c = number_pattern c.args.b (omega arith)

pub float_from_bits-start : goal.float_from_bits-start
float_from_bits-start c = number_pattern (0x5fe6_eb50_c7b5_37a9 - c.args.b / 2) (omega arith)
