-- What is left of the lines that the program may read: a turn that goes on has read some.
use Rattle.std.proofs.Common.{◌-◌}
use Rattle.run_systems.proofs.main.Given as goal

abbrev pub decreases-loop-lines : goal.decreases-loop-lines
decreases-loop-lines l = 1099511627776 - l.lines
