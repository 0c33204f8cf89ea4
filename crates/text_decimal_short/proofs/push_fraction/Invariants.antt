-- `text_decimal_short::push_fraction` meets its contract: zeros at the end are passed over.
use Rattle.std.proofs.Common.{◌≡◌}
use Rattle.text_decimal_short.specs.Short.{fraction_text}
use Rattle.text_decimal_short.proofs.push_fraction.Given as goal

abbrev pub invariant-loop-left : goal.invariant-loop-left
invariant-loop-left l = record {
  same : l.text.items ≡ l.fn.text.items;
  is : fraction_text l.left l.rest ≡ fraction_text l.k l.v;
}
