-- `next_label`: the next label, or 0 after the last.
use native.Mathlib.Omega.{arith}
use Rattle.window.proofs.Round.{label_next, label_round}
use Rattle.window.proofs.next_label.Goals as goal

pub returns-then-s-k : goal.returns-then-s-k
returns-then-s-k c a e = label_round _ a e (omega (arith, c.requires.0)) (omega arith)

pub returns : goal.returns
returns c a e = label_next _ a e (omega (arith, c.requires.0)) (omega (arith, c.requires.0))
