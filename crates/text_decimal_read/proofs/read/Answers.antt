use mathlib.Core.Path.{sym, ◌∙◌}
use native.Mathlib.Numerals.{add-one}
use Rattle.text_decimal_read.proofs.Scan.{first, next}
use Rattle.text_decimal_read.proofs.read.Goals as goal

pub loop-i-init : goal.loop-i-init
loop-i-init c = first _ _ c.start-s.ensures

pub loop-i-preserved : goal.loop-i-preserved
loop-i-preserved c =
    rw (add-one c.loop-i.i) (next _ _ _ _ c.loop-i.invariant c.loop-i-test.true (sym c.step.ensures ∙ c.in_ok-s.ensures.ok_part))
