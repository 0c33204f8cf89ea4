-- `successor`: the oldest label is cut off, the others move up, r stands first.
use native.Mathlib.Omega.{arith}
use Rattle.window.proofs.Arithmetic.{power_positive, successor_is, successor_small}
use Rattle.window.proofs.successor.Goals as goal

pub nonzero_rem-kept : goal.nonzero_rem-kept
nonzero_rem-kept c = power_positive c.requires.window_number c.requires.r_lt_k.1

pub overflow_mul-result : goal.overflow_mul-result
overflow_mul-result c = omega (arith, successor_small c.requires.window_number c.requires.r_lt_k.1 _ c.requires.r_lt_k.0)

pub overflow_add-result : goal.overflow_add-result
overflow_add-result c = omega (arith, successor_small c.requires.window_number c.requires.r_lt_k.1 _ c.requires.r_lt_k.0)

pub returns : goal.returns
returns c = successor_is c.requires.window_number c.requires.r_lt_k.1 _
