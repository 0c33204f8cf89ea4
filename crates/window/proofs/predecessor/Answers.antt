-- `predecessor`: the newest label is cut off, x stands last.
use native.Mathlib.Omega.{arith}
use Rattle.window.proofs.Arithmetic.{predecessor_is, predecessor_small}
use Rattle.window.proofs.predecessor.Goals as goal

pub overflow_mul-result : goal.overflow_mul-result
overflow_mul-result c = let h = predecessor_small c.requires.window_number c.requires.x_lt_k.1 _ c.requires.x_lt_k.0 in omega (arith, h.0, h.1)

pub overflow_add-result : goal.overflow_add-result
overflow_add-result c = let h = predecessor_small c.requires.window_number c.requires.x_lt_k.1 _ c.requires.x_lt_k.0 in omega (arith, h.0, h.1)

pub returns : goal.returns
returns c = predecessor_is c.requires.window_number c.requires.x_lt_k.1 _
