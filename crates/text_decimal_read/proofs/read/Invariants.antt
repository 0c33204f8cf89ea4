-- `text_decimal_read::read` meets its contract: what is left of the text leads where the whole text does.
use Rattle.text_decimal_read.proofs.Scan.{Scanned}
use Rattle.text_decimal_read.proofs.read.Given as goal

abbrev pub invariant-loop-i : goal.invariant-loop-i
invariant-loop-i l = Scanned l.text l.s l.i
